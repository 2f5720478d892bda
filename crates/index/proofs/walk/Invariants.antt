-- What is left of the walk is the walk from here by the rest of the path. Assumes nothing.
use mathlib.Core.Path.{◌≡◌}
use Prim.Native.Nat.{◌-◌}
use Rattle.index.specs.Index.{ids_from, path_in, walk_by}
use Rattle.index.proofs.walk.Given as goal

abbrev pub invariant-loop-i : goal.invariant-loop-i
invariant-loop-i l =
    walk_by l.index l.links l.n (path_in l.ids l.count) l.s ≡ walk_by l.index l.links l.n (ids_from l.ids l.i (l.count - l.i)) l.at
