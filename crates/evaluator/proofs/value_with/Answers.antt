-- The nodes are noted, and the expression is computed with them. Assumes nothing.
use mir.Facts.{to_z-of_z}
use Rattle.evaluator.proofs.Evaluates.{value_noted}
use Rattle.evaluator.proofs.value_with.Goals as goal

pub returns : goal.returns
returns c =
    value_noted _ _ _ _ _ _ _ c.requires c.resolve.ensures (rw (to_z-of_z c.ranges.place) at c.expression_at.ensures)
