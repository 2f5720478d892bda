-- What the search leaves. Assumes nothing.
use native.Mathlib.Omega.{arith}
use Rattle.walk.proofs.Columns.{numbers_told}
use Rattle.passes.proofs.Counting.{allowed}
use Rattle.passes.proofs.Repeating.{tried_start, tried_pass, tried_settled, tried_on_lem, tried_all_lem}
use Rattle.passes.proofs.repeat.Goals as goal

pub loop-n-init : goal.loop-n-init
loop-n-init c = tried_start _ _ _ (allowed _ _ c.requires).2 c.no_numbers-numbers.ensures

pub returns-then-eq : goal.returns-then-eq
returns-then-eq c =
    let kept = c.loop-n.invariant in
    tried_settled _ _ _ kept (omega arith) (tried_pass _ _ _ kept (omega arith) c.pass-next.ensures) _ (numbers_told _ _ c.eq.ensures) c.if-eq.true

pub loop-n-preserved : goal.loop-n-preserved
loop-n-preserved c =
    let kept = c.loop-n.invariant in
    tried_on_lem _ _ _ kept (omega arith) (tried_pass _ _ _ kept (omega arith) c.pass-next.ensures) _ (numbers_told _ _ c.eq.ensures) c.if-eq.false

pub returns : goal.returns
returns c = let e = c.at.ensures in rw e (tried_all_lem _ _ _ c.loop-n.invariant (omega arith) (omega arith))
