-- An answer is written for all that wait; without one, this scope waits too. Assumes nothing.
use Prim.Native.Nat.{◌+◌}
use native.Mathlib.Omega.{arith}
use Rattle.scopes.proofs.All as laws
use Rattle.scopes.proofs.noted.Goals as goal

pub returns-in-Some : goal.returns-in-Some
returns-in-Some c =
    let tally = c.args.tally in
    let end = tally.written + tally.waiting + 1 in
    let part = laws.part_filled c.args.list.now _ tally.written (tally.waiting + 1) end _ (omega arith) (omega arith) in
    laws.noted_node _ _ _ c.in-Some.is (part (c.fill.ensures.after (λ y e. e)))

pub returns-in-None : goal.returns-in-None
returns-in-None c = laws.noted_none _ _ _ c.in-None.is c.if-waits.true

pub returns-in-None-2 : goal.returns-in-None-2
returns-in-None-2 c = laws.noted_alone _ _ _ c.in-None-2.is c.if-waits.false
