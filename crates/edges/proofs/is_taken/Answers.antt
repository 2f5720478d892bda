-- What the search leaves. Assumes nothing.
use mathlib.Core.Path.{◌≡◌, sym, ◌∙◌}
use native.Mathlib.Omega.{arith}
use Rattle.edges.specs.Edges.{taken, edges_in}
use Rattle.edges.proofs.Laws as laws
use Rattle.edges.proofs.is_taken.Goals as goal

pub returns-then-leads_elsewhere : goal.returns-then-leads_elsewhere
returns-then-leads_elsewhere c =
    let elsewhere = sym c.leads_elsewhere.ensures ∙ c.if-leads_elsewhere.true in
    sym (c.loop-i.invariant ∙ laws.taken_here _ _ c.loop-i-test.true c.edge_in.ensures _ _ _ elsewhere)

pub loop-i-preserved : goal.loop-i-preserved
loop-i-preserved c =
    let not-elsewhere = sym c.leads_elsewhere.ensures ∙ c.if-leads_elsewhere.false in
    c.loop-i.invariant ∙ laws.taken_other _ _ c.loop-i-test.true c.edge_in.ensures _ _ _ not-elsewhere

pub returns : goal.returns
unfolding taken edges_in
returns c =
    let none_left : c.loop-i.i ≡ 0 = omega arith in
    sym (c.loop-i.invariant ∙ rw none_left)
