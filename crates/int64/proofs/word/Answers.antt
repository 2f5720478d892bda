-- `int64::word` meets its contract: `!x` of an x below zero is 2 ^ 64 less the size, flipped. Assumes nothing.
use Rattle.std.proofs.Common.{arith}
use Rattle.int64.proofs.Laws.{flipped, word_below, word_above, cast_above}
use Rattle.int64.proofs.word.Goals as goal

pub overflow_cast-result : goal.overflow_cast-result
overflow_cast-result c = rw (flipped c.args.x c.ranges.x c.if-x-lt0.true) (tt, omega (arith, c.ranges.x.sfits))

pub overflow_cast-result-else-x-lt0 : goal.overflow_cast-result-else-x-lt0
overflow_cast-result-else-x-lt0 c = cast_above c.args.x c.ranges.x c.if-x-lt0.false

pub returns-then-x-lt0 : goal.returns-then-x-lt0
returns-then-x-lt0 c = rw (flipped c.args.x c.ranges.x c.if-x-lt0.true) (word_below c.args.x c.ranges.x c.if-x-lt0.true)

pub returns-else-x-lt0 : goal.returns-else-x-lt0
returns-else-x-lt0 c = word_above c.args.x c.ranges.x c.if-x-lt0.false
