-- What each case of the answers says in document 01's terms. Assumes nothing: these are definitions.
use Rattle.refusals.specs.Says.{number_of}
use Rattle.evaluator.specs.Expression as E
use Rattle.evaluator.specs.Expression.{Meaning}
use Rattle.evaluator.specs.declared.Step.{Step}
use Rattle.evaluator.specs.declared.Value as Val
use Rattle.evaluator.specs.declared.Value.TheVariants as came

abbrev pub says_value : Val.Value → E.Value
says_value (came.Number z) = E.Number z
says_value (came.Unresolved at) = E.Unresolved at
says_value (came.Refused f) = E.Refuses (number_of f.why) f.at

-- where the expression ends, and its value
abbrev pub says_step : Step → Meaning
says_step s = (s.at, says_value s.value)
