-- What is laid so far, then the labels up to the last, is the whole. Assumes nothing.
use mathlib.Core.Path.{◌≡◌}
use Prim.Native.Nat.{◌-◌}
use Rattle.page.specs.Page.{laid}
use Rattle.script_tapes.specs.Tapes.{labels_behind}
use Rattle.script_tapes.proofs.put_labels.Given as goal

abbrev pub invariant-loop-id : goal.invariant-loop-id
invariant-loop-id l = laid l.room l.at (labels_behind (l.id - 1) (l.last - (l.id - 1))) ≡ laid l.initial.room l.begin (labels_behind 0 l.last)
