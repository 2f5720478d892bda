-- The node is on the chain of s exactly if it is on the chain of the node that the loop has come to. Assumes nothing.
use mathlib.Core.Path.{◌≡◌}
use lib.ListN.{length}
use Rattle.edges.specs.Edges.{has, chain, held}
use Rattle.soundness.specs.Steps.{Ends}
use Rattle.growth.proofs.on_chain.Given as goal

abbrev pub invariant-loop-at : goal.invariant-loop-at
invariant-loop-at l = Ends (held l.links l.n) l.at × (has l.x (chain (held l.links l.n) l.s) ≡ has l.x (chain (held l.links l.n) l.at))

abbrev pub decreases-loop-at : goal.decreases-loop-at
decreases-loop-at l = length (chain (held l.links l.n) l.at)
