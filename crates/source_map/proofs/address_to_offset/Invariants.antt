-- `source_map::address_to_offset` meets its contract. The loop's invariant: the entries from here on are in range, and `first` is the first of them that holds the address. Assumes nothing.
use Rattle.source_map.proofs.Loops.{Looked}
use Rattle.source_map.proofs.address_to_offset.Given as goal

abbrev pub invariant-loop-i : goal.invariant-loop-i
invariant-loop-i l = Looked l.map l.pc l.count l.first l.i
