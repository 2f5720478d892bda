-- What the search leaves. Assumes nothing.
use mathlib.Core.Path.{◌≡◌, sym, ◌∙◌}
use native.Mathlib.Omega.{arith}
use Rattle.edges.specs.Edges.{parent_of, edges_in}
use Rattle.edges.proofs.Laws as laws
use Rattle.edges.proofs.parent.Goals as goal

pub returns-then-edge-s : goal.returns-then-edge-s
returns-then-edge-s c =
    sym (c.loop-i.invariant ∙ laws.parent_here _ _ c.loop-i-test.true c.edge_in-edge.ensures c.if-edge-s.true)

pub loop-i-preserved : goal.loop-i-preserved
loop-i-preserved c =
    c.loop-i.invariant ∙ laws.parent_other _ _ c.loop-i-test.true c.edge_in-edge.ensures c.if-edge-s.false

pub returns : goal.returns
unfolding parent_of edges_in
returns c =
    let none_left : c.loop-i.i ≡ 0 = omega arith in
    sym (c.loop-i.invariant ∙ rw none_left)
