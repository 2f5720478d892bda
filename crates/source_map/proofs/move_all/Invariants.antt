-- `source_map::move_all` meets its contract. The loop's invariant: the entries before this one are moved, and the rest is as it was. Assumes nothing.
use mathlib.Core.Path.{◌≡◌}
use Rattle.source_map.proofs.Loops.{moved_to}
use Rattle.source_map.proofs.Words.{holding}
use Rattle.source_map.proofs.move_all.Given as goal

abbrev pub invariant-loop-i : goal.invariant-loop-i
invariant-loop-i l = l.map ≡ holding l.initial.map (moved_to l.initial.map l.from l.to l.span l.i)
