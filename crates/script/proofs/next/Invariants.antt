-- No mark stands between where the walk begins and here. Assumes nothing.
use mathlib.Core.Path.{◌≡◌}
use lib.ListN.{drop}
use Rattle.script.specs.Parts.{from}
use Rattle.script.proofs.next.Given as goal

abbrev pub invariant-loop-at : goal.invariant-loop-at
invariant-loop-at l = from l.mark 1 (drop l.at l.text) ≡ from l.mark 1 (drop l.begin l.text)
