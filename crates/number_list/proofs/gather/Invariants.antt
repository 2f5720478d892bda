-- Each turn passes one record over, and adds its number if it has one. Assumes nothing.
use Prim.Native.Nat.{◌-◌}
use lib.ListN.{length}
use Rattle.number_list.proofs.Gathering.{Gathering}
use Rattle.number_list.proofs.gather.Given as goal

abbrev pub invariant-loop-at : goal.invariant-loop-at
invariant-loop-at l = Gathering l.tape l.numbers l.initial.list l.list l.names l.count l.at

abbrev pub decreases-loop-at : goal.decreases-loop-at
decreases-loop-at l = length l.tape - l.at
