-- What stands behind the marks that are left, from here on, is what stands behind all of them. Assumes nothing.
use mathlib.Core.Path.{◌≡◌}
use Prim.Native.Nat.{◌-◌, ◌≤◌}
use lib.ListN.{length, drop}
use Rattle.script.specs.Parts.{from}
use Rattle.script.proofs.behind.Given as goal

abbrev pub invariant-loop-i : goal.invariant-loop-i
invariant-loop-i l = (l.at ≤ length l.text) × (from l.mark (l.count - l.i) (drop l.at l.text) ≡ from l.mark l.count l.text)
