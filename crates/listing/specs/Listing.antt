-- The listing of a tape: a line for each record that writes, in tape order, and a last one; or the refusal of its build. Assumes
-- nothing: these are definitions.
use Rattle.std.specs.Prelude.{ℕ, List, ◌++◌, ℤ, Option}
use Rattle.refusals.specs.AnswerAt.{AnswerAt, mapped, and_then}
use Rattle.form.specs.Statements.{Statement, statements}
use Rattle.evaluator.specs.Expression.{Value}
use Rattle.names.specs.Names.{names_of}
use Rattle.walk.specs.Walk.{Origin, begin}
use Rattle.walk.specs.Values.{Values, numbered}
use Rattle.passes.specs.Passes.{settled}
use Rattle.reads.specs.Reads.{reads_on}
use Rattle.builds.specs.Build.{tried_with}
use Rattle.lines.specs.Text.{last_line}
use Rattle.record_lines.specs.Records.{lines}

-- ---- the listing

module _ (reads : (ℕ → Option ℤ) → ℤ → ℕ → Value) (xs : List Statement) (o : Origin) where
  -- of the build after n passes, which settled on L
  abbrev pub listed_with : ℕ × Values → AnswerAt (List ℕ)
  listed_with (n, L) =
      mapped (λ b. lines reads (numbered L) (begin o) xs ++ last_line b.start b.end b.passes) (tried_with reads xs o (n, L))

  unfoldable pub listed_by : AnswerAt (List ℕ)
  listed_by = and_then (settled reads xs o) listed_with

-- form and names, passes, tries, as in the build
unfoldable pub listed : List ℕ → Origin → AnswerAt (List ℕ)
listed tape o = and_then (names_of tape) (λ t. listed_by (reads_on tape t) (statements tape) o)
