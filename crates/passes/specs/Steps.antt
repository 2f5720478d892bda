-- What private functions promise each other on the way, record by record. No public promise cites these. Assumes nothing: these are
-- definitions.
use Rattle.std.specs.Prelude.{ℕ, ◌+◌, List, eqb, ℤ, get_or, set, Option, None, Some}
use Rattle.refusals.specs.Answer.{pick}
use Rattle.tape.specs.Kinds.{label, constant}
use Rattle.form.specs.Form.{declares}
use Rattle.form.specs.Statements.{is_inner, what_of}
use Rattle.walk.specs.declared.Walk.{Walk}
use Rattle.walk.specs.Walk.{here, step}

-- behind a record: those of expressions are passed over
unfoldable pub step_over : Walk → List ℕ → Option ℤ → Walk
step_over w r v = pick (is_inner r) w (step w (what_of r) v)

-- what a pass keeps for a declaration of this kind: a label its place, a constant its expression, a scope nothing
unfoldable pub kept_for : ℕ → Walk → Option ℤ → Option ℤ
kept_for k w v = pick (eqb k label) (Some (here w)) (pick (eqb k constant) v None)

-- one entry of an array, written where a record declares a name
unfoldable pub kept_in : List (Option ℤ) → Walk → List ℕ → Option ℤ → List (Option ℤ)
kept_in numbers w r v = pick (declares (get_or r 0 0)) (set numbers (w.names + 1) v) numbers
