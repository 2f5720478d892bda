-- What the search leaves. Assumes nothing.
use mathlib.Core.Path.{sym, ◌∙◌}
use native.Mathlib.Omega.{arith}
use Rattle.edges.proofs.Laws as laws
use Rattle.edges.proofs.deepest.Goals as goal

pub returns-in_default : goal.returns-in_default
returns-in_default c =
    let missing = laws.reached_none c.child.ensures c.in_default.is in
    laws.there_is _ _ _ (omega arith) (laws.no_deeper _ _ c.loop-depth-test.true _ _ missing ∙ sym c.loop-depth.invariant)

pub loop-depth-preserved : goal.loop-depth-preserved
loop-depth-preserved c =
    let there = laws.reached_node c.child.ensures c.in-Some.is in
    c.loop-depth.invariant ∙ laws.deeper _ _ c.loop-depth-test.true _ _ there

pub returns : goal.returns
returns c =
    laws.there_is _ _ _ (omega arith) (laws.deepest_end _ _ (omega arith) c.loop-depth-test.false _ _ ∙ sym c.loop-depth.invariant)
