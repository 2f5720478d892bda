-- What the search leaves. Assumes nothing.
use mathlib.Core.Path.{sym, ◌∙◌}
use native.Mathlib.Omega.{arith}
use Rattle.edges.proofs.Laws as laws
use Rattle.edges.proofs.walk.Goals as goal

pub returns-in_default : goal.returns-in_default
returns-in_default c =
    let stuck = laws.reached_none c.step.ensures c.in_default.is in
    sym (c.loop-x.invariant ∙ laws.walk_stuck _ _ c.loop-x-test.true _ _ stuck)

pub loop-x-preserved : goal.loop-x-preserved
loop-x-preserved c =
    let onward = laws.reached_node c.step.ensures c.in-Some.is in
    c.loop-x.invariant ∙ laws.walk_on _ _ c.loop-x-test.true _ _ onward

pub returns : goal.returns
returns c = sym (c.loop-x.invariant ∙ laws.walk_end _ _ (omega arith) c.loop-x-test.false _ _)
