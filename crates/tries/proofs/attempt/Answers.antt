-- Without an expression: the place is the one that is handed on. Assumes nothing.
use mathlib.Core.Path.{ap, ◌∙◌}
use lib.IntN.{ℤ}
use mir.Facts.{to_z-of_z}
use Rattle.refusals.specs.AnswerAt as At
use Rattle.opcodes.specs.Encode.{code}
use Rattle.form.specs.Statements.{what_of}
use Rattle.evaluator.specs.Says.{says_value}
use Rattle.tries.specs.Try.{try_of}
use Rattle.tries.proofs.attempt.Goals as goal

pub returns-then-not-is_followed : goal.returns-then-not-is_followed
returns-then-not-is_followed c =
    let args = c.args in
    let v = says_value args.value in
    c.attempt_alone.ensures v
    ∙ ap (λ (place : ℤ). At.mapped code (try_of args.compares args.own place args.at (what_of args.rec.now) v)) (to_z-of_z c.ranges.place)
