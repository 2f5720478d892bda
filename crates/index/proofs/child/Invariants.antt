-- What is left to look at answers for all. Assumes nothing.
use mathlib.Core.Path.{◌≡◌}
use Prim.Native.Nat.{◌-◌}
use Rattle.index.specs.Index.{among, child_by}
use Rattle.index.proofs.child.Given as goal

abbrev pub invariant-loop-turn : goal.invariant-loop-turn
invariant-loop-turn l = child_by l.index l.links l.n l.s l.x ≡ among l.index l.links l.s l.x (l.n - l.turn) l.k
