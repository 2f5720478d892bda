-- An integer by its sign and its size, as the private functions of this crate pass it on. No promise of a public function
-- rests on these. Assumes nothing: these are definitions.
use Rattle.std.specs.Prelude.{ℕ, Bool, true, false, not, ℤ, pos, neg_ℤ}
use Rattle.std.proofs.Math.IntN.{sub_ℕ}
use Rattle.std.specs.Int.Signed.{non_neg}

-- whether z is below zero
abbrev pub below_zero : ℤ → Bool
below_zero z = not (non_neg z)

-- the integer of this sign and this size
abbrev pub signed : Bool → ℕ → ℤ
signed true m = neg_ℤ (pos m)
signed false m = pos m

-- x - y for false, y - x for true
abbrev pub apart : Bool → ℕ → ℕ → ℤ
apart true x y = sub_ℕ y x
apart false x y = sub_ℕ x y
