-- Each public call allows one answer: the law of `refusals`, applied to each call's own contract. Assumes nothing.
use mathlib.Core.Path.{◌≡◌, refl, ap}
use Rattle.refusals.specs.Says.{says_at}
use Rattle.refusals.specs.declared.Refusal.{Refusal}
use Rattle.refusals.proofs.One.{refusal_of, back_number, back_at, back_says_at}
use Rattle.refusals.proofs.Unique.{OneResult, told_apart}
use Rattle.evaluator.specs.Expression as E
use Rattle.evaluator.specs.Expression.{Meaning}
use Rattle.evaluator.specs.Says.{says_value, says_step}
use Rattle.evaluator.specs.declared.Value.{Value}
use Rattle.evaluator.specs.declared.Value.TheVariants as came
use Rattle.evaluator.specs.declared.Step.{Step}
use Rattle.evaluator.proofs.expression_at.Reads as expression_at_lem
use Rattle.evaluator.proofs.evaluate.Reads as evaluate

-- ---- of each answer, the case that says this

abbrev pub back_value : E.Value → Value
back_value (E.Number z) = came.Number z
back_value (E.Unresolved at) = came.Unresolved at
back_value (E.Refuses n at) = came.Refused (record { why = refusal_of n; at = at })

abbrev back_step : Meaning → Step
back_step m = record { at = m.0; value = back_value m.1 }

pub back_value_lem : (x : Value) → back_value (says_value x) ≡ x
back_value_lem (came.Number z) = refl
back_value_lem (came.Unresolved at) = refl
back_value_lem (came.Refused f) = ap (λ (e : Refusal). came.Refused (record { why = e; at = f.at })) (back_number f.why)

back_step_lem : (x : Step) → back_step (says_step x) ≡ x
back_step_lem x = ap (λ (v : Value). record { at = x.at; value = v }) (back_value_lem x.value)

-- ---- the calls

pub expression_at_one : OneResult expression_at_lem.Post
expression_at_one k a x y e f p q = told_apart says_step back_step back_step_lem p q

pub evaluate_one : OneResult evaluate.Post
evaluate_one k a x y e f p q = told_apart says_at back_at back_says_at p q
