-- `int64::sub` meets its contract: the sum with the other sign. Assumes nothing.
use Rattle.int64.proofs.Laws.{rejoined, rejoined_neg}
use Rattle.std.proofs.Common.{refl, ◌∙◌}
use Rattle.int64.proofs.sub.Goals as goal

pub returns : goal.returns
returns c =
    let a = rejoined c.ranges.a c.negative.ensures c.size.ensures in
    let b = rejoined_neg c.ranges.b c.negative-2.ensures c.size-2.ensures in
    c.sum.ensures ∙ rw (a, b) refl
