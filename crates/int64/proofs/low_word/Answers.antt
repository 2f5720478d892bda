-- `int64::low_word` meets its contract: 65,536 divides 2 ^ 64. Assumes nothing.
use Rattle.std.proofs.Common.{◌^◌, refl, arith}
use Rattle.int64.proofs.Laws.{low_is}
use Rattle.int64.proofs.low_word.Goals as goal

pub returns : goal.returns
returns c = low_is 65536 (2 ^ 48) (omega arith) refl c.ranges.a c.word.ensures
