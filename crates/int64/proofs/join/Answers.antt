-- `int64::join` meets its contract: a size of at most 2 ^ 63 below zero, or under it above, fits. Assumes nothing.
use Rattle.std.proofs.Common.{refl, arith}
use Rattle.int64.proofs.Laws.{join_above, join_over, join_below, signed_out}
use Rattle.int64.proofs.join.Goals as goal

pub returns-then-m-eq0 : goal.returns-then-m-eq0
returns-then-m-eq0 c = rw (c.if-below.true, c.if-m-eq0.true) refl

pub returns-then-m-le-HALF : goal.returns-then-m-le-HALF
returns-then-m-le-HALF c = join_below c.args.below c.args.m c.if-below.true c.if-m-eq0.false (omega arith)

pub returns-else-m-le-HALF : goal.returns-else-m-le-HALF
returns-else-m-le-HALF c = signed_out c.args.below c.args.m (omega arith)

pub returns-then-m-lt-HALF : goal.returns-then-m-lt-HALF
returns-then-m-lt-HALF c = join_above c.args.below c.args.m c.if-below.false c.if-m-lt-HALF.true

pub returns-else-m-lt-HALF : goal.returns-else-m-lt-HALF
returns-else-m-lt-HALF c = join_over c.args.below c.args.m c.if-below.false c.if-m-lt-HALF.false
