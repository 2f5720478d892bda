-- Where a record ends, and one step of depth. Assumes nothing.
use Rattle.std.specs.Prelude.{Option, Some}
use mathlib.Core.List.{List}
use mathlib.Core.Path.{◌≡◌, refl, sym, ap, ◌∙◌}
use Prim.Native.Nat.{ℕ, zero, suc, ◌+◌, ◌-◌, ◌^◌, ◌<◌}
use native.Mathlib.Omega.{arith}
use lib.IntN.{ℤ}
use lib.ListN.{length}
use Rattle.refusals.specs.Table.{too_deep}
use Rattle.tape.specs.Kinds.{flags, binary}
use Rattle.tape.specs.Record.{bytes_at}
use Rattle.tape.proofs.Records.{record_end}
use Rattle.evaluator.specs.Expression.{Refuses, Meaning, joined, inner_at, factor_by, expression_by, expression, factor}

-- where it ends is a place that memory has
pub ends : (tape : List ℕ) (at : ℕ) {r : List ℕ} → r ≡ bytes_at tape at → at < 2 ^ 64 → length tape < 2 ^ 64 → at + length r < 2 ^ 64
ends tape at {r} r-is h l =
    let e : length r ≡ length (bytes_at tape at) = ap length r-is in
    omega (arith, record_end tape at (2 ^ 64 - 1) (omega arith) (omega arith))

-- ---- one step of depth

module _ (tape : List ℕ) (numbers : ℕ → Option ℤ) (place : ℤ) where
  pub expression_deep : (at : ℕ) → expression tape numbers place 0 at ≡ (at, Refuses too_deep at)
  unfolding expression
  expression_deep at = refl

  pub factor_deep : (at : ℕ) → factor tape numbers place 0 at ≡ (at, Refuses too_deep at)
  unfolding factor
  factor_deep at = refl

  pub expression_more : (d at : ℕ) → (d ≡ 0 → ⊥) → expression tape numbers place d at
      ≡ expression_by tape numbers place (inner_at tape at binary) (expression tape numbers place (d - 1)) (factor tape numbers place d at) at
  unfolding expression factor
  expression_more zero at h = absurd (h refl)
  expression_more (suc d) at h = let e : suc d - 1 ≡ d = omega arith in rw e refl

  pub factor_more : (d at : ℕ) → (d ≡ 0 → ⊥) → factor tape numbers place d at
      ≡ factor_by tape numbers place (inner_at tape at flags) (expression tape numbers place (d - 1)) at
  unfolding factor
  factor_more zero at h = absurd (h refl)
  factor_more (suc d) at h = let e : suc d - 1 ≡ d = omega arith in rw e refl

  -- an operator's left and right
  pub expression_binary : (d at : ℕ) → (d ≡ 0 → ⊥) → {b next : ℕ} → Some (b, next) ≡ inner_at tape at binary → {l r m : Meaning}
      → l ≡ expression tape numbers place (d - 1) next → r ≡ expression tape numbers place (d - 1) l.0
      → m ≡ (r.0, joined at b l.1 r.1) → m ≡ expression tape numbers place d at
  expression_binary d at h i pl pr pm = pm ∙ rw (pr, pl) (sym (expression_more d at h ∙ rw (← i)))

pub ruleset depths = (expression_deep, factor_deep, expression_more, factor_more)
