-- What the reported pass count is: the least index at which the sequence repeats. Assumes nothing: this is a definition.
use Rattle.std.specs.Prelude.{ℕ, ◌-◌, ◌≤◌, ◌<◌, List, ◌≡◌, ℤ, Option}
use Rattle.form.specs.Statements.{Statement}
use Rattle.evaluator.specs.Expression.{Value}
use Rattle.walk.specs.Walk.{Origin}
use Rattle.passes.specs.Passes.{limit, passes}

-- "the least n, 1 to 16, with Ln equal to L(n-1)"
pub record Least (reads : (ℕ → Option ℤ) → ℤ → ℕ → Value) (xs : List Statement) (o : Origin) (n : ℕ) : Type 0 where
  pub some : 1 ≤ n
  pub within : n ≤ limit
  pub repeats : passes reads xs o n ≡ passes reads xs o (n - 1)
  pub least : (m : ℕ) → 1 ≤ m → m < n → ¬ (passes reads xs o m ≡ passes reads xs o (m - 1))
