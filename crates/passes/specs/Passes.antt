-- The passes. Document 01: "L0 has every label and constant unresolved. Pass n walks the tape from the initial place, reads L(n-1)
-- and gives Ln. A label gets its place, a constant its expression. A refused expression counts as unresolved."
-- Assumes nothing: these are definitions.
use Rattle.std.specs.Prelude.{ℕ, zero, suc, ◌-◌, Bool, List, [], ◌∷◌, ◌++◌, ℤ, replicate, Option, None, Some}
use Rattle.refusals.specs.Answer.{pick}
use Rattle.refusals.specs.AnswerAt.{AnswerAt, Fine, Fault}
use Rattle.refusals.specs.Table.{not_settled}
use Rattle.form.specs.Statements.{What, Instruction, Open, Close, Label, Constant, SetPlace, Byte, Word, Screen, Statement}
use Rattle.evaluator.specs.Expression.{Value}
use Rattle.walk.specs.declared.Walk.{Walk}
use Rattle.walk.specs.Walk.{Origin, begin, here}
use Rattle.walk.specs.Values.{Values, numbered, read_at, step_at, declarations, eq_value, same}

-- ---- one pass

-- what a pass gives for the name that a statement declares: "A label gets its place, a constant its expression"
abbrev pub gives : Walk → What → Option ℤ → Values
gives w (Label id) v = Some (here w) ∷ []
gives w (Constant id) v = v ∷ []
gives w (Open id) v = None ∷ []
gives w Close v = []
gives w (Instruction mnemonic mode suffix) v = []
gives w SetPlace v = []
gives w Byte v = []
gives w Word v = []
gives w (Screen petscii) v = []

-- reads: what the expression at an offset comes to, where the nodes have these numbers, at a place
module _ (reads : (ℕ → Option ℤ) → ℤ → ℕ → Value) where
  -- a pass from a walk on
  unfoldable pub pass : (ℕ → Option ℤ) → Walk → List Statement → Values
  pass numbers w [] = []
  pass numbers w (x ∷ xs) = gives w x.says (read_at reads numbers w x) ++ pass numbers (step_at reads numbers w x) xs

-- ---- the sequence

-- the least of `more` numbers, from n on, that passes a test
abbrev pub least_from : (ℕ → Bool) → ℕ → ℕ → Option ℕ
least_from test zero n = None
least_from test (suc more) n = pick (test n) (Some n) (least_from test more (suc n))

-- "1 to 16"
abbrev pub limit : ℕ
limit = 16

module _ (reads : (ℕ → Option ℤ) → ℤ → ℕ → Value) (xs : List Statement) (o : Origin) where
  -- Ln: "L0 has every label and constant unresolved", and pass n "reads L(n-1) and gives Ln"
  unfoldable pub passes : ℕ → Values
  passes zero = replicate (declarations xs) None
  passes (suc n) = pass reads (numbered (passes n)) (begin o) xs

  -- "Ln equal to L(n-1)"
  unfoldable pub repeats : ℕ → Bool
  repeats n = same eq_value (passes n) (passes (n - 1))

  -- the passes, and the settled numbers: "The build reports the least n, 1 to 16, with Ln equal to L(n-1); none: refusal 16 at
  -- offset 0"
  abbrev pub settled_by : Option ℕ → AnswerAt (ℕ × Values)
  settled_by (Some n) = Fine (n, passes n)
  settled_by None = Fault not_settled 0

  unfoldable pub settled : AnswerAt (ℕ × Values)
  settled = settled_by (least_from repeats limit 1)
