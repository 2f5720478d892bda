-- The value, behind table and scope and the form. Assumes nothing.
use mathlib.Core.Bool.{true}
use mathlib.Core.Path.{sym}
use mir.Facts.{to_z-of_z}
use Rattle.refusals.proofs.Pick.{granted}
use Rattle.form.proofs.Sound.{form_short}
use Rattle.evaluator.proofs.Evaluates.{evaluate_value}
use Rattle.evaluator.proofs.evaluate.Goals as goal

pub value_alone-requires : goal.value_alone-requires
value_alone-requires c = form_short true _ (sym c.in_ok-expression_form.ensures)

pub returns : goal.returns
returns c =
    evaluate_value _ _ _ _ (granted c.is_node.ensures c.if-not-is_node.false) c.in_ok-expression_form.ensures
    (rw (to_z-of_z c.ranges.place) at c.value_alone.ensures) c.answer.ensures
