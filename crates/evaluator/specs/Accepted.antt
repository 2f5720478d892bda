-- What an expression can come to whose form is accepted, and so what the evaluator can answer. Assumes nothing: these are
-- definitions.
use Rattle.std.specs.Prelude.{ℕ, ◌<◌, List, ◌≡◌, ℤ, length}
use Rattle.refusals.specs.AnswerAt.{AnswerAt, Fine, Fault}
use Rattle.refusals.specs.Table.{argument, arithmetic, unresolved}
use Rattle.form.specs.Form.{expression_form}
use Rattle.evaluator.specs.Expression.{Value, Number, Unresolved, Refuses, Meaning}

-- ---- an expression alone

-- a value: a number; unresolved; or refused, by "arithmetic" and by nothing else. The offset lies within the `len` bytes
abbrev pub Computed : (len : ℕ) → Value → Type 0
Computed len (Number z) = Unit {0}
Computed len (Unresolved i) = i < len
Computed len (Refuses n i) = (n ≡ arithmetic) × (i < len)

-- a meaning: the expression ends where its bytes do, and its value is such a one
pub record Complete (bytes : List ℕ) (m : Meaning) : Type 0 where
  pub ends : m.0 ≡ length bytes
  pub value : Computed (length bytes) m.1

-- ---- the call

-- what is answered: 1 for an argument, the fault of the form, or, the form being accepted, a number, 10 or 11: "gives 10 and 11 at 0"
pub data Answers (bytes : List ℕ) : AnswerAt ℤ → Type 0 where
  ByArgument : Answers bytes (Fault argument 0)
  ByForm : {n i : ℕ} → expression_form bytes ≡ Fault n i → Answers bytes (Fault n i)
  ByNumber : {z : ℤ} → expression_form bytes ≡ Fine tt → Answers bytes (Fine z)
  ByArithmetic : expression_form bytes ≡ Fine tt → Answers bytes (Fault arithmetic 0)
  ByName : expression_form bytes ≡ Fine tt → Answers bytes (Fault unresolved 0)
