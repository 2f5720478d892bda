-- `int64::low_byte` meets its contract: 256 divides 2 ^ 64. Assumes nothing.
use Rattle.std.proofs.Common.{◌^◌, refl, arith}
use Rattle.int64.proofs.Laws.{low_is}
use Rattle.int64.proofs.low_byte.Goals as goal

pub returns : goal.returns
returns c = low_is 256 (2 ^ 56) (omega arith) refl c.ranges.a c.word.ensures
