-- `int64::minus` meets its contract: the smaller size from the larger, whose sign is kept. Assumes nothing.
use Rattle.int64.proofs.Laws.{apart_ge, apart_lt}
use Rattle.std.proofs.Common.{ap, ◌∙◌}
use Rattle.int64.specs.Num.{fit}
use Rattle.int64.proofs.minus.Goals as goal

pub returns-then-y-x : goal.returns-then-y-x
returns-then-y-x c = c.join.ensures ∙ ap fit (apart_ge c.args.below c.args.x c.args.y c.if-y-x.true)

pub returns-else-y-x : goal.returns-else-y-x
returns-else-y-x c = c.join-else-y-x.ensures ∙ ap fit (apart_lt c.args.below c.args.x c.args.y c.if-y-x.false)
