-- An expression of an accepted tape that stands where one is to come is computed, whatever numbers the nodes have. Assumes nothing.
use Rattle.std.specs.Prelude.{Option}
use mathlib.Core.Bool.{false}
use mathlib.Core.List.{List, ◌∷◌}
use Prim.Native.Nat.{ℕ, ◌<◌}
use native.Mathlib.Omega.{arith}
use lib.IntN.{ℤ}
use lib.ListN.{length}
use Rattle.symbols.specs.declared.SymbolTable.{SymbolTable}
use Rattle.form.specs.Form.{pending}
use Rattle.form.proofs.Sound.{Sound}
use Rattle.evaluator.specs.Accepted.{Computed}
use Rattle.evaluator.proofs.Accepted.{passed}
use Rattle.reads.specs.Reads.{reaches, number_in, reads_on}

module _ (tape : List ℕ) (t : SymbolTable) (numbers : ℕ → Option ℤ) where
  pub computes : (n d : ℕ) (ds : List ℕ) (at : ℕ) (place : ℤ) → 0 < d → Sound false tape (pending n (d ∷ ds)) at
      → Computed (length tape) (reads_on tape t numbers place at)
  unfolding reads_on
  computes n d ds at place deep sound =
      (passed false tape (λ i. number_in numbers (reaches tape t i)) place n 64 d ds at deep (omega arith) sound).value
