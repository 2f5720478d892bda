-- `soundness::parents` meets its contract. The loop's invariant: the list has the parents by the edges before this one.
-- Assumes nothing.
use mathlib.Core.Path.{◌≡◌}
use lib.ListN.{length}
use Rattle.edges.specs.Edges.{max_nodes, edges_in}
use Rattle.soundness.specs.Steps.{Parents}
use Rattle.soundness.proofs.parents.Given as goal

abbrev pub invariant-loop-i : goal.invariant-loop-i
invariant-loop-i l = (length l.up ≡ max_nodes) × Parents l.up (edges_in l.links l.i)
