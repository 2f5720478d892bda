-- `int64::mul` meets its contract: the product of the sizes, with the sign that the two signs give. Assumes nothing.
use Rattle.int64.proofs.Laws.{multiplied}
use Rattle.std.proofs.Common.{ap, ◌∙◌}
use Rattle.int64.specs.Num.{fit}
use Rattle.int64.proofs.mul.Goals as goal

pub returns : goal.returns
returns c =
    c.times.ensures
    ∙ ap fit
    (multiplied c.ranges.a c.ranges.b c.negative.ensures c.negative-2.ensures
    c.size.ensures
    c.size-2.ensures)
