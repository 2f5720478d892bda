-- The path, and then the query. Assumes nothing.
use mathlib.Core.Path.{sym}
use lib.Seq.{length-take-le}
use Rattle.lookup.proofs.Paths.{path_is, path_long, asked}
use Rattle.lookup.proofs.node_of.Goals as goal

pub returns-then-n-gt-LONGEST : goal.returns-then-n-gt-LONGEST
returns-then-n-gt-LONGEST c = path_long _ _ c.ids_in-n.ensures _ _ _ c.if-n-gt-LONGEST.true

pub slice_bounds-query_edges-end : goal.slice_bounds-query_edges-end
slice_bounds-query_edges-end c = sym (length-take-le _ _ c.if-n-gt-LONGEST.false)

pub returns : goal.returns
returns c =
    let path = path_is _ _ c.ids_in-n.ensures c.if-n-gt-LONGEST.false
    c.u16_at.ensures c.u16_at-2.ensures c.u16_at-3.ensures c.u16_at-4.ensures in
    asked _ _ _ _ path c.query_edges.ensures
