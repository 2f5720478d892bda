-- `int64::neg` meets its contract: the size with the other sign. Assumes nothing.
use Rattle.int64.proofs.Laws.{rejoined_neg}
use Rattle.std.proofs.Common.{ap, ◌∙◌}
use Rattle.int64.specs.Num.{fit}
use Rattle.int64.proofs.neg.Goals as goal

pub returns : goal.returns
returns c = c.join.ensures ∙ ap fit (rejoined_neg c.ranges.a c.negative.ensures c.size.ensures)
