-- The test, and then the change. Assumes nothing.
use mathlib.Core.Path.{ap, ◌∙◌}
use native.Mathlib.Omega.{arith}
use Rattle.refusals.specs.Answer.{Done}
use Rattle.refusals.proofs.Pick.{granted, passed, stopped}
use Rattle.symbols.specs.declared.SymbolTable.{SymbolTable}
use Rattle.symbols.specs.Symbols.{left, update_data}
use Rattle.soundness.proofs.Nodes.{node_has}
use Rattle.symbols.proofs.SymbolTable.update_data.Goals as goal

pub returns-then-not-is_node : goal.returns-then-not-is_node
unfolding update_data
returns-then-not-is_node c =
    ap (left c.args.self) (stopped _ _ c.is_node.ensures c.if-not-is_node.true)

pub with_data-requires : goal.with_data-requires
with_data-requires c =
    let node = node_has _ _ _ _ (granted c.is_node.ensures c.if-not-is_node.false) in
    omega (arith, node.below, node.few_nodes)

pub returns : goal.returns
unfolding update_data
returns c =
    let so = passed _ _ c.is_node.ensures c.if-not-is_node.false in
    ap (λ (t : SymbolTable). (t, Done tt)) c.with_data.ensures
    ∙ ap (left c.args.self) so
