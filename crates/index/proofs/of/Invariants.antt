-- The loop keeps: the index of the edges before this one. Assumes nothing.
use mathlib.Core.Path.{◌≡◌}
use Rattle.index.specs.Index.{index_of}
use Rattle.index.proofs.of.Given as goal

abbrev pub invariant-loop-i : goal.invariant-loop-i
invariant-loop-i l = l.index ≡ index_of l.links l.i
