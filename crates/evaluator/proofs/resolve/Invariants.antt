-- Each turn passes one record over, and notes it if it is a name. Assumes nothing.
use Prim.Native.Nat.{◌-◌}
use lib.ListN.{length}
use Rattle.lookup.proofs.Notes.{Noting}
use Rattle.evaluator.proofs.resolve.Given as goal

abbrev pub invariant-loop-at : goal.invariant-loop-at
invariant-loop-at l = Noting l.bytes l.links l.edges (λ i. l.scope) l.initial.nodes l.nodes l.at

abbrev pub decreases-loop-at : goal.decreases-loop-at
decreases-loop-at l = length l.bytes - l.at
