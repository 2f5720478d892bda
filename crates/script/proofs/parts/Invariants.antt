-- What has begun so far, and what begins from here on, is all. Assumes nothing.
use mathlib.Core.Path.{◌≡◌}
use Prim.Native.Nat.{◌+◌, ◌≤◌}
use lib.ListN.{drop}
use Rattle.script.specs.Parts.{starts}
use Rattle.script.proofs.parts.Given as goal

abbrev pub invariant-loop-byte : goal.invariant-loop-byte
invariant-loop-byte l =
    (l.count ≤ l.byte-index) × (l.count + starts l.mark l.before (drop l.byte-index l.text) ≡ starts l.mark l.mark l.text)
