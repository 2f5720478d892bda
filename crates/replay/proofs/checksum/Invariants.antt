-- `replay::checksum` meets its contract. Invariant: what is left, added to the sum, is all. Assumes nothing.
use Rattle.std.proofs.Common.{◌≡◌, drop}
use Rattle.replay.specs.Checksum.{checksum_of}
use Rattle.replay.proofs.checksum.Given as goal

abbrev pub invariant-loop-byte : goal.invariant-loop-byte
invariant-loop-byte l = checksum_of l.sum (drop l.byte-index l.bytes) ≡ checksum_of 0 l.bytes
