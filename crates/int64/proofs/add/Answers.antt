-- `int64::add` meets its contract: each number is its sign and size. Assumes nothing.
use Rattle.int64.proofs.Laws.{rejoined}
use Rattle.std.proofs.Common.{refl, ◌∙◌}
use Rattle.int64.proofs.add.Goals as goal

pub returns : goal.returns
returns c =
    let a = rejoined c.ranges.a c.negative.ensures c.size.ensures in
    let b = rejoined c.ranges.b c.negative-2.ensures c.size-2.ensures in
    c.sum.ensures ∙ rw (a, b) refl
