-- How much is there of the path is how much is there of its rest, from here. Assumes nothing.
use mathlib.Core.Path.{◌≡◌}
use lib.ListN.{drop}
use Rattle.edges.specs.Edges.{deepest, held}
use Rattle.edges.proofs.deepest.Given as goal

abbrev pub invariant-loop-depth : goal.invariant-loop-depth
invariant-loop-depth l = deepest (held l.links l.n) l.s l.path ≡ deepest (held l.links l.n) l.node (drop l.depth l.path)
