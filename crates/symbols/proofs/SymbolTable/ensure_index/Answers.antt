-- The test, and then the nodes that are missing. Assumes nothing.
use Rattle.std.proofs.Common.{ap, ◌∙◌, arith}
use Rattle.std.proofs.lemmas.Result.{err_from_is_err_and}
use Rattle.refusals.specs.Answer.{Done}
use Rattle.symbols.specs.declared.SymbolTable.{SymbolTable}
use Rattle.symbols.specs.Symbols.{left_node}
use Rattle.symbols.proofs.Calls.{ensure_refused, ensure_few, ensure_done, ensure_room}
use Rattle.symbols.proofs.SymbolTable.ensure_index.Goals as goal

pub offset_bounds-path-there : goal.offset_bounds-path-there
offset_bounds-path-there c =
    let a = c.args in
    omega (arith, ensure_few a.self a.nx a.path.now c.in_ok-there.ensures)

pub slice_bounds-grown-count : goal.slice_bounds-grown-count
slice_bounds-grown-count c = let a = c.args in ensure_few a.self a.nx a.path.now c.in_ok-there.ensures

pub slice_bounds-grown-start : goal.slice_bounds-grown-start
slice_bounds-grown-start c = let a = c.args in ensure_few a.self a.nx a.path.now c.in_ok-there.ensures

pub grown-requires : goal.grown-requires
grown-requires c = let a = c.args in ensure_room a.self a.nx a.path.now c.in_ok-there.ensures

pub returns-in_err-there : goal.returns-in_err-there
returns-in_err-there c =
    let a = c.args in
    let p = err_from_is_err_and c.from_residual.result c.from_residual.ensures.1 in
    rw (p.1, p.2) (ap (left_node a.self) (ensure_refused a.self a.nx a.path.now c.in_err-there.ensures))

pub returns : goal.returns
returns c =
    let a = c.args in
    ap (λ (v : SymbolTable × _). (v.0, Done v.1)) c.grown.ensures
    ∙ ap (left_node a.self) (ensure_done a.self a.nx a.path.now c.in_ok-there.ensures)
