-- Bytes, each behind a space: how long they are. Assumes nothing.
use mathlib.Core.List.{List, [], ◌∷◌}
use mathlib.Core.Path.{◌≡◌, refl}
use Prim.Native.Nat.{ℕ, ◌*◌}
use native.Mathlib.Omega.{arith}
use lib.ListN.{length}
use Rattle.lines.specs.Text.{spaced}

pub length_spaced : (bs : List ℕ) → length (spaced bs) ≡ 3 * length bs
length_spaced [] = refl
length_spaced (b ∷ bs) = omega (arith, length_spaced bs)
