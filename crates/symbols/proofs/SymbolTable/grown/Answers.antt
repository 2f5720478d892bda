-- What the search leaves. Assumes nothing.
use Rattle.std.proofs.Common.{◌∙◌, arith}
use Rattle.symbols.proofs.Tables as tables
use Rattle.symbols.proofs.SymbolTable.grown.Goals as goal

pub loop-x-preserved : goal.loop-x-preserved
loop-x-preserved c =
    let so_far = c.loop-x.invariant in
    let one_more_lem = c.with_child-table.ensures in (
      omega (arith, so_far.0, tables.one_node_more _ _ _ _ _ one_more_lem),
      omega (arith, so_far.1, tables.one_edge_more _ _ _ _ _ one_more_lem),
      tables.grown_on _ _ _ _ _ c.loop-x-test.true one_more_lem ∙ so_far.2,
    )

pub returns : goal.returns
returns c = tables.grown_end _ _ _ _ c.loop-x.auto.x-index-end c.loop-x-test.false ∙ c.loop-x.invariant.2
