-- What each turn keeps, and the text at each way out; the measure is what is left of the tape. Assumes nothing.
use Prim.Native.Nat.{◌-◌}
use lib.ListN.{length}
use Rattle.walk.specs.Numbers.{numbers_in}
use Rattle.record_lines.proofs.Walking.{Going}
use Rattle.record_lines.proofs.put_lines.Given as goal

abbrev pub invariant-loop-at : goal.invariant-loop-at
invariant-loop-at l =
    Going l.tape l.nodes (numbers_in l.numbers) l.fn.initial l.initial.text l.text l.place l.end l.at

abbrev pub decreases-loop-at : goal.decreases-loop-at
decreases-loop-at l = length l.tape - l.at
