-- What is given so far, and the pass from here; the measure is what is left of the tape. Assumes nothing.
use Prim.Native.Nat.{◌-◌}
use lib.ListN.{length}
use Rattle.walk.specs.Numbers.{numbers_in}
use Rattle.passes.proofs.Passing.{Going}
use Rattle.passes.proofs.pass.Given as goal

abbrev pub invariant-loop-at : goal.invariant-loop-at
invariant-loop-at l = Going l.tape l.nodes (numbers_in l.numbers) l.fn.initial l.given l.walk l.at

abbrev pub decreases-loop-at : goal.decreases-loop-at
decreases-loop-at l = length l.tape - l.at
