-- What each turn keeps, and the answer at each way out; the measure is what is left of the tape. Assumes nothing.
use Prim.Native.Nat.{◌-◌}
use lib.ListN.{length}
use Rattle.walk.specs.Numbers.{numbers_in}
use Rattle.tries.proofs.Walking.{Going}
use Rattle.tries.proofs.draw_all.Given as goal

abbrev pub invariant-loop-at : goal.invariant-loop-at
invariant-loop-at l =
    Going l.tape l.nodes (numbers_in l.numbers) l.compares l.fn.initial l.initial.image l.image l.pen l.walk l.at

abbrev pub decreases-loop-at : goal.decreases-loop-at
decreases-loop-at l = length l.tape - l.at
