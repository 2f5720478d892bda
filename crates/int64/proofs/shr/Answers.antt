-- `int64::shr` meets its contract: the machine shift rounds down. Assumes nothing.
use Rattle.std.proofs.Common.{◌∙◌, le-ltb, lt-ltb}
use Rattle.int64.proofs.Laws.{below_count, counted, halved_out, halved_in}
use Rattle.int64.proofs.shr.Goals as goal

pub returns-then-negative : goal.returns-then-negative
returns-then-negative c =
    halved_out c.args.a c.args.k (below_count c.ranges.k c.negative.ensures c.if-negative.true)

pub returns-then-n-lt-BITS : goal.returns-then-n-lt-BITS
returns-then-n-lt-BITS c =
    let n = c.size-n.ensures in
    halved_in c.ranges.a c.ranges.k
    (counted c.ranges.k c.negative.ensures c.if-negative.false n ∙ lt-ltb _ 64 c.if-n-lt-BITS.true)
    n

pub returns-else-n-lt-BITS : goal.returns-else-n-lt-BITS
returns-else-n-lt-BITS c =
    halved_out c.args.a c.args.k
    (counted c.ranges.k c.negative.ensures c.if-negative.false c.size-n.ensures ∙ le-ltb _ 64 c.if-n-lt-BITS.false)
