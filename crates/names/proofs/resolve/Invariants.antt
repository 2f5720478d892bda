-- The loop keeps: the scopes and the notes from here on, with this state, are those of the whole tape. Assumes nothing.
use Prim.Native.Nat.{◌-◌}
use lib.ListN.{length}
use Rattle.names.proofs.Resolving.{Resolving}
use Rattle.names.proofs.resolve.Given as goal

abbrev pub invariant-loop-at : goal.invariant-loop-at
invariant-loop-at l = Resolving l.tape l.links l.edges l.initial.nodes l.nodes l.walk l.at

abbrev pub decreases-loop-at : goal.decreases-loop-at
decreases-loop-at l = length l.tape - l.at
