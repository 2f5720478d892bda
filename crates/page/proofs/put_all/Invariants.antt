-- What is laid so far, then the rest of the piece from here, is the whole. Assumes nothing.
use mathlib.Core.Path.{◌≡◌}
use lib.ListN.{drop}
use Rattle.page.specs.Page.{laid}
use Rattle.page.proofs.put_all.Given as goal

abbrev pub invariant-loop-byte : goal.invariant-loop-byte
invariant-loop-byte l = laid l.bytes l.at (drop l.byte-index l.piece) ≡ laid l.initial.bytes l.from l.piece
