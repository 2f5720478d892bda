-- The scan goes down from the last edge: what is left to ask is what is asked of the edges below. Assumes nothing.
use mathlib.Core.Path.{◌≡◌}
use Rattle.edges.specs.Edges.{child_of, edges_in, held}
use Rattle.edges.proofs.child.Given as goal

abbrev pub invariant-loop-i : goal.invariant-loop-i
invariant-loop-i l = child_of (held l.links l.n) l.s l.x ≡ child_of (edges_in l.links l.i) l.s l.x
