-- Two readings that agree at the expression of every statement. Assumes nothing.
use Rattle.std.specs.Prelude.{Option}
use mathlib.Core.List.{List}
use mathlib.Core.Path.{◌≡◌}
use Prim.Native.Nat.{ℕ}
use lib.IntN.{ℤ}
use Rattle.refusals.specs.Each.{Each}
use Rattle.form.specs.Statements.{Statement}
use Rattle.evaluator.specs.Expression.{Value}

module _ (r s : (ℕ → Option ℤ) → ℤ → ℕ → Value) where
  abbrev pub Alike : List Statement → Type 0
  Alike xs = Each (λ x. (numbers : ℕ → Option ℤ) (place : ℤ) → r numbers place x.expression ≡ s numbers place x.expression) xs
