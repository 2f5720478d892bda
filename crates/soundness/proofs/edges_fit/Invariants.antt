-- `soundness::edges_fit` meets its contract. The loop's invariant: whether the edges before this one fit is whether all do.
-- Assumes nothing.
use mathlib.Core.Path.{◌≡◌}
use Rattle.edges.specs.Edges.{edges_in}
use Rattle.soundness.specs.Sound.{all_fit}
use Rattle.soundness.proofs.edges_fit.Given as goal

abbrev pub invariant-loop-i : goal.invariant-loop-i
invariant-loop-i l = all_fit l.nodes (edges_in l.links l.n) ≡ all_fit l.nodes (edges_in l.links l.i)
