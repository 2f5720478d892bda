-- The least number that passes a test. Assumes nothing.
use Rattle.std.specs.Prelude.{Option, None, Some}
use mathlib.Core.Bool.{Bool, true, false}
use mathlib.Core.Path.{◌≡◌, refl}
use Prim.Native.Nat.{ℕ, zero, suc, ◌+◌, ◌≤◌, ◌<◌}
use native.Mathlib.Decide.{dec_lt}
use native.Mathlib.Omega.{arith}
use Rattle.refusals.specs.Answer.{pick}
use Rattle.passes.specs.Passes.{least_from}

-- the least of `more` numbers, from n on

module _ (test : ℕ → Bool) where
  -- what is found is the least that passes
  abbrev pub Found : ℕ → ℕ → Option ℕ → Type 0
  Found more n (Some m) = (n ≤ m) × (m < n + more) × (test m ≡ true) × ((k : ℕ) → n ≤ k → k < m → test k ≡ false)
  Found more n None = (k : ℕ) → n ≤ k → k < n + more → test k ≡ false

  -- the first of them does not pass
  wider : (more n : ℕ) (r : Option ℕ) → test n ≡ false → Found more (suc n) r → Found (suc more) n r
  wider more n (Some m) no' f =
      (omega arith, omega arith, f.2, λ k a b. elim (dec_lt n k) [ yes h ↦ f.3 k h b | no h ↦ let e : n ≡ k = omega arith in rw e at no' ])
  wider more n None no' f = λ k a b. elim (dec_lt n k) [ yes h ↦ f k h (omega arith) | no h ↦ let e : n ≡ k = omega arith in rw e at no' ]

  pub least_found : (more n : ℕ) → Found more n (least_from test more n)
  least_found zero n = λ k a b. absurd (omega arith)
  least_found (suc more) n = go (test n) refl (least_found more (suc n))
    where
      go : (t : Bool) → test n ≡ t → Found more (suc n) (least_from test more (suc n))
          → Found (suc more) n (pick t (Some n) (least_from test more (suc n)))
      go true e f = (omega arith, omega arith, e, λ k a b. absurd (omega arith))
      go false e f = wider more n (least_from test more (suc n)) e f
