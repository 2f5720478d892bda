-- The check of numbers, a start and bytes against a tape. Document 01: "After form and names the checker refuses a list of the wrong
-- length (17 at 0), then tries records the same way, with 17, for a constant's number too, in place of 13, then compares start, length
-- and bytes (18 at 0)." Assumes nothing: these are definitions.
use Rattle.std.specs.Prelude.{ℕ, List, eqb, ℤ, length, Option}
use Rattle.refusals.specs.Answer.{pick}
use Rattle.refusals.specs.AnswerAt.{AnswerAt, Fault, and_then}
use Rattle.refusals.specs.Table.{number_differs}
use Rattle.form.specs.Statements.{Statement, statements}
use Rattle.evaluator.specs.Expression.{Value}
use Rattle.names.specs.Names.{names_of}
use Rattle.walk.specs.Walk.{Origin}
use Rattle.walk.specs.Values.{numbered}
use Rattle.compares.specs.Compared.{checker}
use Rattle.tries.specs.Tries as T
use Rattle.tries.specs.Tries.{tries}
use Rattle.number_list.specs.Lists.{count, values_of}
use Rattle.reads.specs.Reads.{reads_on}
use Rattle.verdict.specs.Verdict.{judged}

-- the list's length, the tries, what they wrote
unfoldable pub checked_by : ((ℕ → Option ℤ) → ℤ → ℕ → Value) → List Statement → Origin → List ℤ → (start : ℕ) (bytes : List ℕ)
    → AnswerAt (Unit {0})
checked_by reads xs o numbers start bytes =
    pick (eqb (length numbers) (count xs))
    (and_then (tries reads checker (numbered (values_of xs numbers)) (T.start o) xs) (judged start bytes))
    (Fault number_differs 0)

-- form and names before them
unfoldable pub checked : List ℕ → Origin → List ℤ → (start : ℕ) (bytes : List ℕ) → AnswerAt (Unit {0})
checked tape o numbers start bytes =
    and_then (names_of tape) (λ t. checked_by (reads_on tape t) (statements tape) o numbers start bytes)
