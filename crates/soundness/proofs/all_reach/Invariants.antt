-- `soundness::all_reach` meets its contract. The loop's invariant: the chains of the nodes below s end at the root, and what is
-- marked is known. Assumes nothing.
use mathlib.Core.List.{List}
use mathlib.Core.Path.{◌≡◌}
use lib.ListN.{length}
use Rattle.edges.specs.declared.Edge.{Edge}
use Rattle.edges.specs.Edges.{max_nodes}
use Rattle.soundness.specs.Steps.{Tells}
use Rattle.soundness.proofs.Sound.{Reached}
use Rattle.soundness.proofs.all_reach.Given as goal

abbrev pub invariant-loop-s : goal.invariant-loop-s
invariant-loop-s l =
    (length l.seen ≡ max_nodes) × ((es : List Edge) → Tells l.up es l.nodes → Reached es l.s l.seen)
