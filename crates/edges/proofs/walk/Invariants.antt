-- What is left of the walk is the walk from here by the rest of the path. Assumes nothing.
use mathlib.Core.Path.{◌≡◌}
use lib.ListN.{drop}
use Rattle.edges.specs.Edges.{walk_of, held}
use Rattle.edges.proofs.walk.Given as goal

abbrev pub invariant-loop-x : goal.invariant-loop-x
invariant-loop-x l = walk_of (held l.links l.n) l.path l.s ≡ walk_of (held l.links l.n) (drop l.x-index l.path) l.at
