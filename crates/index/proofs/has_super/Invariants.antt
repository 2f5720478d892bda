-- What is left of the path decides for all. Assumes nothing.
use mathlib.Core.Path.{◌≡◌}
use Prim.Native.Nat.{◌-◌}
use Rattle.edges.specs.Edges.{has}
use Rattle.index.specs.Index.{ids_from, path_in}
use Rattle.index.proofs.has_super.Given as goal

abbrev pub invariant-loop-i : goal.invariant-loop-i
invariant-loop-i l = has 0 (path_in l.ids l.count) ≡ has 0 (ids_from l.ids l.i (l.count - l.i))
