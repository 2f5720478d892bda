-- `int64::size` meets its contract: `!x` of an x below zero is its size less one. Assumes nothing.
use Rattle.std.proofs.Common.{sym, arith}
use Rattle.int64.proofs.Laws.{flipped, size_below, cast_above}
use Rattle.int64.proofs.size.Goals as goal

pub overflow_cast-result : goal.overflow_cast-result
overflow_cast-result c = rw (flipped c.args.x c.ranges.x c.if-x-lt0.true) (tt, omega (arith, c.ranges.x.sfits))

pub overflow_add-result : goal.overflow_add-result
overflow_add-result c = rw (flipped c.args.x c.ranges.x c.if-x-lt0.true) (omega (arith, c.ranges.x.sfits))

pub overflow_cast-result-else-x-lt0 : goal.overflow_cast-result-else-x-lt0
overflow_cast-result-else-x-lt0 c = cast_above c.args.x c.ranges.x c.if-x-lt0.false

pub returns-then-x-lt0 : goal.returns-then-x-lt0
returns-then-x-lt0 c = rw (flipped c.args.x c.ranges.x c.if-x-lt0.true) (sym (size_below c.args.x c.ranges.x c.if-x-lt0.true))
