-- What is laid so far, then the piece as often as is left, is the whole. Assumes nothing.
use mathlib.Core.Path.{◌≡◌}
use Prim.Native.Nat.{◌-◌}
use Rattle.page.specs.Page.{laid, repeated}
use Rattle.page.proofs.put_often.Given as goal

abbrev pub invariant-loop-i : goal.invariant-loop-i
invariant-loop-i l = laid l.bytes l.at (repeated (l.times - l.i) l.piece) ≡ laid l.initial.bytes l.from (repeated l.times l.piece)
