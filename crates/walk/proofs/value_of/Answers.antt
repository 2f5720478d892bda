-- By whether an expression follows. Assumes nothing.
use mir.Facts.{to_z-of_z}
use Rattle.walk.proofs.Values.{value_none, value_read}
use Rattle.walk.proofs.value_of.Goals as goal

pub returns-then-not-is_followed : goal.returns-then-not-is_followed
returns-then-not-is_followed c = value_none _ _ _ _ _ _ c.is_followed.ensures c.if-not-is_followed.true

pub returns : goal.returns
returns c =
    value_read _ _ _ _ _ _ c.is_followed.ensures c.if-not-is_followed.false (rw (to_z-of_z c.ranges.place) at c.expression_at.ensures)
