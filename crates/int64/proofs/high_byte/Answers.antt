-- `int64::high_byte` meets its contract: a shift by 8 is the floor quotient by 256. Assumes nothing.
use Rattle.int64.proofs.Laws.{high_is}
use Rattle.int64.proofs.high_byte.Goals as goal

pub returns : goal.returns
returns c = high_is c.ranges.a c.low_byte.ensures
