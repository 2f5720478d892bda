-- Each side is asked for with the place handed on. Assumes nothing.
use mir.Facts.{to_z-of_z}
use Rattle.evaluator.proofs.Meanings.{expression_binary}
use Rattle.evaluator.proofs.+expression_factor.Goals as goal

pub expression-returns-in-Some : goal.expression-returns-in-Some
expression-returns-in-Some t c =
    let place = to_z-of_z c.ranges.place in
    expression_binary _ _ _ _ _ c.if-depth-eq0.false c.in-Some.ensures (rw place at c.expression-left.ensures)
    (rw place at c.expression-right.ensures) c.both.ensures
