-- What the search leaves. Assumes nothing.
use mathlib.Core.Path.{sym, ◌∙◌}
use Rattle.edges.proofs.Laws.{reached_node, reached_none}
use Rattle.index.proofs.Laws as laws
use Rattle.index.proofs.walk.Goals as goal

pub returns-in_default : goal.returns-in_default
returns-in_default c =
    let stuck = reached_none c.step.ensures c.in_default.is in
    sym (c.loop-i.invariant ∙ laws.walk_stuck _ _ _ _ _ _ _ c.loop-i-test.true c.id_at.ensures stuck)

pub loop-i-preserved : goal.loop-i-preserved
loop-i-preserved c =
    let onward = reached_node c.step.ensures c.in-Some.is in
    c.loop-i.invariant ∙ laws.walk_on _ _ _ _ _ _ _ c.loop-i-test.true c.id_at.ensures onward

pub returns : goal.returns
returns c = sym (c.loop-i.invariant ∙ laws.walk_end _ _ _ _ _ _ _ c.loop-i-test.false)
