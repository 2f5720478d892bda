-- What is laid so far, then the bytes of the text as often as is left, is the whole. Assumes nothing.
use mathlib.Core.Path.{◌≡◌}
use Prim.Native.Nat.{◌-◌}
use Rattle.page.specs.Page.{laid, repeated, bytes_in}
use Rattle.script_tapes.proofs.put_times.Given as goal

abbrev pub invariant-loop-i : goal.invariant-loop-i
invariant-loop-i l =
    laid l.room l.at (repeated (l.times - l.i) (bytes_in l.text)) ≡ laid l.initial.room l.begin (repeated l.times (bytes_in l.text))
