-- What private functions promise each other on the way. No public promise cites this. Assumes nothing: this is a definition.
use Rattle.std.specs.Prelude.{ℕ, List, ◌≡◌, ℤ, Option}
use Rattle.refusals.specs.AnswerAt.{Fine}
use Rattle.form.specs.Statements.{Statement}
use Rattle.evaluator.specs.Expression.{Value}
use Rattle.walk.specs.Walk.{Origin}
use Rattle.tries.specs.Tries.{Trying, start, tries}
use Rattle.compares.specs.Compared.{builder}

module _ (reads : (ℕ → Option ℤ) → ℤ → ℕ → Value) where
  -- every statement passes its try
  abbrev pub AllPass : (ℕ → Option ℤ) → List Statement → Origin → Type 0
  AllPass numbers xs o = (u : Trying) × (tries reads builder numbers (start o) xs ≡ Fine u)
