-- A rule of a table, proved at all of its entries by one equation of two lists that antt computes. Assumes nothing.
use mathlib.Core.Path.{◌≡◌, ap, ◌∙◌, sym}
use mathlib.Core.Logic.{⊎_elim}
use mathlib.Core.List.{List, [], ◌∷◌}
use Prim.Native.Nat.{ℕ, zero, suc, ◌+◌, ◌*◌, ◌/◌, ◌%◌, ◌<◌}
use native.Mathlib.Omega.{arith}
use native.Mathlib.Nat.{le_of_suc-le-suc, not-suc-le-zero, eq-or-lt_of_le}
use Rattle.opcodes.specs.Census.{below, triple}

module _ {A : Type 0} where
  -- f k, f (k + 1), .., of n numbers
  abbrev pub from : (ℕ → A) → ℕ → ℕ → List A
  from f k zero = []
  from f k (suc n) = f k ∷ from f (suc k) n

  -- two functions with equal lists are equal at each number below n
  pub at : (f g : ℕ → A) (n : ℕ) → below f n ≡ below g n → (k : ℕ) → k < n → f k ≡ g k
  at f g zero e k h = absurd (not-suc-le-zero h)
  at f g (suc n) e k h =
      ⊎_elim (λ (p : k ≡ n). let q : f n ≡ g n = cc in ap f p ∙ q ∙ ap g (sym p))
      (λ (l : k < n). at f g n (cc) k l)
      (eq-or-lt_of_le (le_of_suc-le-suc h))

  -- the same of functions of a mnemonic, a mode and a suffix
  pub at_triple : (f g : ℕ → ℕ → ℕ → A) → below (triple f) 840 ≡ below (triple g) 840
      → (m o s : ℕ) → (m < 56) × (o < 5) × (s < 3) → f m o s ≡ g m o s
  at_triple f g e m o s h =
      let k : ℕ = m * 15 + o * 3 + s in
      let a : k / 15 ≡ m = omega arith in
      let b : k / 3 % 5 ≡ o = omega arith in
      let d : k % 3 ≡ s = omega arith in
      let t : triple f k ≡ triple g k = at (triple f) (triple g) 840 e k (omega arith) in
      simp (a, b, d) at t
