-- `source_map::is_sound` meets its contract. The loop's invariant: whether the entries from here on are in range is whether all are. Assumes nothing.
use mathlib.Core.Path.{◌≡◌}
use Rattle.source_map.specs.SourceMap.{entries, all_in_range}
use Rattle.source_map.proofs.Loops.{rest}
use Rattle.source_map.proofs.is_sound.Given as goal

abbrev pub invariant-loop-i : goal.invariant-loop-i
invariant-loop-i l = all_in_range (rest l.map l.i l.count) ≡ all_in_range (entries l.map)
