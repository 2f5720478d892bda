-- The test, then the nodes that are missing, and the edge. Assumes nothing.
use Rattle.std.proofs.Common.{ℕ, ap, ◌∙◌, arith}
use Rattle.std.proofs.lemmas.Result.{err_from_is_err_and}
use Rattle.refusals.specs.Answer.{Done}
use Rattle.growth.specs.Growth.{last_id}
use Rattle.symbols.specs.declared.SymbolTable.{SymbolTable}
use Rattle.symbols.specs.Symbols.{left, with_edge, exported}
use Rattle.symbols.proofs.Calls.{grown_edges, export_refused, export_short, export_few, export_done, export_room}
use Rattle.symbols.proofs.SymbolTable.export.Goals as goal

pub offset_bounds-path-there : goal.offset_bounds-path-there
offset_bounds-path-there c =
    let a = c.args in
    let few = export_few a.self a.node a.parent a.path.now c.in_ok-there.ensures in
    let short = export_short a.self a.node a.parent a.path.now c.in_ok-there.ensures in
    omega (arith, few, short)

pub slice_bounds-grown-count : goal.slice_bounds-grown-count
slice_bounds-grown-count c = let a = c.args in export_few a.self a.node a.parent a.path.now c.in_ok-there.ensures

pub slice_bounds-grown-start : goal.slice_bounds-grown-start
slice_bounds-grown-start c = let a = c.args in export_few a.self a.node a.parent a.path.now c.in_ok-there.ensures

pub grown-made-requires : goal.grown-made-requires
grown-made-requires c =
    let a = c.args in
    let free = export_room a.self a.node a.parent a.path.now c.in_ok-there.ensures in
    (free.0, omega (arith, free.1))

pub with_edge-requires : goal.with_edge-requires
with_edge-requires c =
    let a = c.args in
    let free = export_room a.self a.node a.parent a.path.now c.in_ok-there.ensures in
    let edges = ap (λ (v : SymbolTable × ℕ). v.0.edges) c.grown-made.ensures ∙ grown_edges _ _ _ in
    omega (arith, free.1, edges)

pub returns-in_err-there : goal.returns-in_err-there
returns-in_err-there c =
    let a = c.args in
    let p = err_from_is_err_and c.from_residual.result c.from_residual.ensures.1 in
    rw (p.1, p.2) (ap (left a.self) (export_refused a.self a.node a.parent a.path.now c.in_err-there.ensures))

pub returns : goal.returns
unfolding exported
returns c =
    let a = c.args in
    ap (λ (t : SymbolTable). (t, Done tt)) c.with_edge.ensures
    ∙ ap (λ (v : SymbolTable × ℕ). (with_edge v.0 v.1 (last_id a.path.now) a.node, Done tt)) c.grown-made.ensures
    ∙ ap (left a.self) (export_done a.self a.node a.parent a.path.now c.in_ok-there.ensures)
