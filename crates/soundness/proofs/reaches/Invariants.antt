-- `soundness::reaches` meets its contract. The loop's invariant is `Walked`: what the marks say when the walk is at `at`. Each
-- turn marks a node that was not marked, so that fewer are left. Assumes nothing.
use mathlib.Core.List.{List}
use mathlib.Core.Path.{◌≡◌}
use Prim.Native.Nat.{ℕ, ◌<◌}
use lib.ListN.{length}
use Rattle.edges.specs.declared.Edge.{Edge}
use Rattle.edges.specs.Edges.{max_nodes}
use Rattle.soundness.specs.Steps.{Tells, Known}
use Rattle.soundness.proofs.Sound.{unmarked, Walked}
use Rattle.soundness.proofs.reaches.Given as goal

abbrev pub invariant-loop-seen : goal.invariant-loop-seen
invariant-loop-seen l =
    (l.at < max_nodes)
    × (length l.seen ≡ max_nodes)
    × ((es : List Edge) (n : ℕ) → Tells l.up es n → l.s < n → Known es l.s l.initial.seen → Walked es n l.s l.at l.seen)

abbrev pub decreases-loop-seen : goal.decreases-loop-seen
decreases-loop-seen l = unmarked l.seen
