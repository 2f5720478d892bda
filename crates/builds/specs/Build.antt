-- The build of a tape. Document 01: form, names, then "Passes". Assumes nothing: these are definitions.
use Rattle.std.specs.Prelude.{ℕ, List, map, ℤ, Option}
use Rattle.refusals.specs.AnswerAt.{AnswerAt, mapped, and_then}
use Rattle.symbols.specs.Symbols.{number_or0}
use Rattle.form.specs.Statements.{Statement, statements}
use Rattle.evaluator.specs.Expression.{Value}
use Rattle.names.specs.Names.{names_of}
use Rattle.walk.specs.Walk.{Origin}
use Rattle.walk.specs.Values.{Values, numbered}
use Rattle.passes.specs.Passes.{settled}
use Rattle.compares.specs.Compared.{builder}
use Rattle.tries.specs.Tries.{Trying, start, tries}
use Rattle.number_list.specs.Lists.{number_list}
use Rattle.reads.specs.Reads.{reads_on}

-- ---- the build

-- where what is written starts and ends, the image, the number list, and how many passes there were
pub record Build : Type 0 where
  pub start : ℕ
  pub end : ℕ
  pub image : List ℕ
  pub numbers : List ℤ
  pub passes : ℕ

-- reads: what the expression at an offset comes to, where the nodes have these numbers, at a place
module _ (reads : (ℕ → Option ℤ) → ℤ → ℕ → Value) (xs : List Statement) (o : Origin) where
  -- after n passes, which settled on L, and the tries
  abbrev pub finished : ℕ → Values → Trying → Build
  finished n L t = record {
    start = t.page.pen.start;
    end = t.page.pen.end;
    image = t.page.image;
    numbers = number_list xs (map number_or0 L);
    passes = n;
  }

  -- the tries read the settled numbers
  abbrev pub tried_with : ℕ × Values → AnswerAt Build
  tried_with (n, L) = mapped (finished n L) (tries reads builder (numbered L) (start o) xs)

  -- passes, then tries
  unfoldable pub built_by : AnswerAt Build
  built_by = and_then (settled reads xs o) tried_with

-- form and names, passes, tries
unfoldable pub built : List ℕ → Origin → AnswerAt Build
built tape o = and_then (names_of tape) (λ t. built_by (reads_on tape t) (statements tape) o)
