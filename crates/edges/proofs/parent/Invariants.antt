-- The scan goes down from the last edge, as in child. Assumes nothing.
use mathlib.Core.Path.{◌≡◌}
use Rattle.edges.specs.Edges.{parent_of, edges_in, held}
use Rattle.edges.proofs.parent.Given as goal

abbrev pub invariant-loop-i : goal.invariant-loop-i
invariant-loop-i l = parent_of (held l.links l.n) l.s ≡ parent_of (edges_in l.links l.i) l.s
