-- What is left to grow is what grows from here by the rest of the names. Assumes nothing.
use Rattle.std.proofs.Common.{◌≡◌, ◌+◌, ◌-◌, ◌≤◌, length, drop}
use Rattle.symbols.specs.Symbols.{grown}
use Rattle.symbols.proofs.SymbolTable.grown.Given as goal

abbrev pub invariant-loop-x : goal.invariant-loop-x
invariant-loop-x l =
    (l.table.nodes + (length l.names - l.x-index) ≤ 1024)
    × (l.table.edges + (length l.names - l.x-index) ≤ 2048)
    × (grown l.table l.node (drop l.x-index l.names) ≡ grown l.initial.table l.s l.names)
