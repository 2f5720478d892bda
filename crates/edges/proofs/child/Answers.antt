-- What the search leaves. Assumes nothing.
use mathlib.Core.Path.{◌≡◌, sym, ◌∙◌}
use native.Mathlib.Omega.{arith}
use Rattle.edges.specs.Edges.{child_of, edges_in}
use Rattle.edges.proofs.Laws as laws
use Rattle.edges.proofs.child.Goals.{else-edge-s-via-then-edge-s+else-edge-x, else-edge-s-via-else-edge-s}
use Rattle.edges.proofs.child.Goals as goal

pub returns-then-edge-x : goal.returns-then-edge-x
returns-then-edge-x c =
    sym (c.loop-i.invariant ∙ laws.child_here _ _ c.loop-i-test.true c.edge_in-edge.ensures c.if-edge-s.true c.if-edge-x.true)

pub loop-i-preserved : goal.loop-i-preserved
loop-i-preserved c =
    let more = c.loop-i-test.true in
    let edge = c.edge_in-edge.ensures in
    elim c.else-edge-s.branch [
      | else-edge-s-via-then-edge-s+else-edge-x w ↦ c.loop-i.invariant ∙ laws.child_unnamed _ _ more edge w.if-edge-s.true w.if-edge-x.false
      | else-edge-s-via-else-edge-s w ↦ c.loop-i.invariant ∙ laws.child_other _ _ more edge _ _ w.if-edge-s.false
    ]

pub returns : goal.returns
unfolding child_of edges_in
returns c =
    let none_left : c.loop-i.i ≡ 0 = omega arith in
    sym (c.loop-i.invariant ∙ rw none_left)
