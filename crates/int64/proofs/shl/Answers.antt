-- `int64::shl` meets its contract: doublings of the bits are the product modulo 2 ^ 64. Assumes nothing.
use Rattle.int64.proofs.Laws.{below_count, counted, shifted_out, shifted_in}
use Rattle.std.proofs.Common.{◌∙◌, le-ltb, lt-ltb}
use Rattle.int64.proofs.shl.Goals as goal

pub returns-then-negative : goal.returns-then-negative
returns-then-negative c =
    shifted_out c.args.a c.args.k (below_count c.ranges.k c.negative.ensures c.if-negative.true)

pub returns-then-n-lt-BITS : goal.returns-then-n-lt-BITS
returns-then-n-lt-BITS c =
    let n = c.size-n.ensures in
    shifted_in c.ranges.a c.ranges.k (record { sfits = c.of_word.type_inv })
    (counted c.ranges.k c.negative.ensures c.if-negative.false n ∙ lt-ltb _ 64 c.if-n-lt-BITS.true)
    c.word.ensures
    n
    c.doubled.ensures
    c.of_word.ensures

pub returns-else-n-lt-BITS : goal.returns-else-n-lt-BITS
returns-else-n-lt-BITS c =
    shifted_out c.args.a c.args.k
    (counted c.ranges.k c.negative.ensures c.if-negative.false c.size-n.ensures ∙ le-ltb _ 64 c.if-n-lt-BITS.false)
