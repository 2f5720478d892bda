-- The scan goes down from the last edge, as in child. Assumes nothing.
use mathlib.Core.Path.{◌≡◌}
use Rattle.edges.specs.Edges.{taken, edges_in, held}
use Rattle.edges.proofs.is_taken.Given as goal

abbrev pub invariant-loop-i : goal.invariant-loop-i
invariant-loop-i l = taken (held l.links l.n) l.s l.x l.to ≡ taken (edges_in l.links l.i) l.s l.x l.to
