-- The number among the names from here on is the number among all. Assumes nothing.
use mathlib.Core.Path.{◌≡◌}
use Prim.Native.Nat.{◌-◌}
use Rattle.script.specs.Commands.{command_from}
use Rattle.script.proofs.command.Given as goal

abbrev pub invariant-loop-i : goal.invariant-loop-i
invariant-loop-i l = command_from l.line l.names l.i (l.count - l.i) ≡ command_from l.line l.names 0 l.count
