-- Each turn passes one record over, and puts its number if it has one. Assumes nothing.
use Prim.Native.Nat.{◌-◌}
use lib.ListN.{length}
use Rattle.number_list.proofs.Spreading.{Spreading}
use Rattle.number_list.proofs.spread_into.Given as goal

abbrev pub invariant-loop-at : goal.invariant-loop-at
invariant-loop-at l = Spreading l.tape l.list l.numbers l.names l.count l.at

abbrev pub decreases-loop-at : goal.decreases-loop-at
decreases-loop-at l = length l.tape - l.at
