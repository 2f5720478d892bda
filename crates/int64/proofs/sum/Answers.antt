-- `int64::sum` meets its contract, by the four pairs of signs. Assumes nothing.
use Rattle.int64.proofs.Laws.{same_sign, other_sign}
use Rattle.std.proofs.Common.{true, false, ap, ◌∙◌}
use Rattle.int64.specs.Num.{fit}
use Rattle.int64.proofs.sum.Goals as goal

pub returns-then-nb : goal.returns-then-nb
returns-then-nb c = rw (c.if-na.true, c.if-nb.true) (c.plus.ensures ∙ ap fit (same_sign true c.args.x c.args.y))

pub returns-else-nb : goal.returns-else-nb
returns-else-nb c = rw (c.if-na.true, c.if-nb.false) (c.minus.ensures ∙ ap fit (other_sign true c.args.x c.args.y))

pub returns-then-nb-2 : goal.returns-then-nb-2
returns-then-nb-2 c = rw (c.if-na.false, c.if-nb-2.true) (c.minus-then-nb-2.ensures ∙ ap fit (other_sign false c.args.x c.args.y))

pub returns-else-nb-2 : goal.returns-else-nb-2
returns-else-nb-2 c = rw (c.if-na.false, c.if-nb-2.false) (c.plus-else-nb-2.ensures ∙ ap fit (same_sign false c.args.x c.args.y))
