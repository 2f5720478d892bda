-- Little-endian numbers: of a part of the list, and past its end.
-- Assumes nothing.
use mathlib.Core.Path.{◌≡◌, refl, sym, ap}
use mathlib.Core.List.{List, []}
use Prim.Native.Nat.{ℕ, zero, suc, ◌-◌, ◌≤◌}
use native.Mathlib.Omega.{arith}
use lib.ListN.{length, take, drop, length-drop, drop_of_length-le}
use lib.Seq.{take_all}
use Rattle.little.specs.Little.{number, number_at}

-- the slice `&s[at..]` is all that stands from `at` on
pub number_part : (n : ℕ) (l : List ℕ) (at : ℕ) → number_at n l at ≡ number (take n (take (length l - at) (drop at l)))
unfolding number_at
number_part n l at =
    ap (λ (part : List ℕ). number (take n part)) (sym (take_all (length l - at) (drop at l) (omega (arith, length-drop at l))))

take_none : (n : ℕ) → number (take n []) ≡ 0
take_none zero = refl
take_none (suc n) = refl

-- past the end
pub number_past : (n : ℕ) (l : List ℕ) (at : ℕ) → length l ≤ at → 0 ≡ number_at n l at
unfolding number_at
number_past n l at h = rw (drop_of_length-le l h) (sym (take_none n))
