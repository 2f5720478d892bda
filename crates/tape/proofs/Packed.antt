-- The packed sizes: what the code reads from them is the size of each kind, by one test, which antt computes. Assumes nothing.
use mathlib.Core.Bool.{Bool, true, ◌&&◌, and-eq-true_iff}
use mathlib.Core.Logic.{⊎_elim}
use mathlib.Core.Path.{◌≡◌, refl, sym, ap, ◌∙◌}
use Prim.Native.Nat.{ℕ, zero, suc, ◌*◌, ◌/◌, ◌%◌, ◌^◌, ◌≤◌, ◌<◌}
use native.Mathlib.Nat.{le_of_suc-le-suc, not-suc-le-zero, eq-or-lt_of_le}
use lib.Dec.{eqb}
use lib.ListN.{get_or, get_or-eq_default}
use borrow.Author.Tests.{eqb-true}
use Rattle.tape.specs.Kinds.{size_of}
use Rattle.tape.specs.Packed.{rows, sizes_of}

-- ---- a row

-- r is the n-th
pub row_at : {r : ℕ} (n : ℕ) → r ≡ n → get_or rows n 0 ≡ sizes_of r
unfolding sizes_of
row_at n e = sym (ap sizes_of e)

-- past the last there are no kinds
pub no_row_lem : (r : ℕ) → 5 ≤ r → 0 ≡ sizes_of r
unfolding sizes_of
no_row_lem r h = sym (get_or-eq_default rows 0 h)

-- ---- a kind

abbrev read : ℕ → ℕ
read kind = sizes_of (kind / 16) / 2 ^ (4 * (kind % 16)) % 16

-- below n, what is read is the size
abbrev agree : ℕ → Bool
agree zero = true
agree (suc n) = eqb (read n) (size_of n) && agree n

agrees : agree 256 ≡ true
unfolding sizes_of size_of
agrees = refl

at : (n : ℕ) → agree n ≡ true → (kind : ℕ) → kind < n → read kind ≡ size_of kind
at zero e kind h = absurd (not-suc-le-zero h)
at (suc n) e kind h =
    let both = (and-eq-true_iff (eqb (read n) (size_of n)) (agree n)).0 e in
    ⊎_elim
    (λ (p : kind ≡ n). ap read p ∙ eqb-true _ _ both.0 ∙ ap size_of (sym p))
    (λ (l : kind < n). at n both.1 kind l)
    (eq-or-lt_of_le (le_of_suc-le-suc h))

-- the digit of a kind in the sizes of its row is its size
pub size_read : {sizes : ℕ} (kind : ℕ) → kind < 256 → sizes ≡ sizes_of (kind / 16) → sizes / 2 ^ (4 * (kind % 16)) % 16 ≡ size_of kind
size_read kind h e = ap (λ (w : ℕ). w / 2 ^ (4 * (kind % 16)) % 16) e ∙ at 256 agrees kind h
