-- What is laid so far, then the rest of the bytes from here, is the whole. Assumes nothing.
use mathlib.Core.Path.{◌≡◌}
use lib.ListN.{drop}
use Rattle.page.specs.Page.{laid}
use Rattle.lines.specs.Text.{spaced}
use Rattle.lines.proofs.put_bytes.Given as goal

abbrev pub invariant-loop-byte : goal.invariant-loop-byte
invariant-loop-byte l = laid l.text l.at (spaced (drop l.byte-index l.bytes)) ≡ laid l.initial.text l.from (spaced l.bytes)
