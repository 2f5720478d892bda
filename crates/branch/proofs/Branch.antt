-- Branches: where a byte is answered, taking the branch reaches exactly the target, and each byte is answered for where it
-- goes; and how the code, which subtracts twice, comes to the offset. Assumes nothing.
use mathlib.Core.Path.{◌≡◌, refl, sym, ap, ◌∙◌}
use mathlib.Core.Bool.{Bool, true, false, and-true}
use Prim.Native.Nat.{ℕ, ◌-◌, ◌%◌, ◌^◌, ◌<◌, ◌≤◌}
use native.Mathlib.Omega.{arith}
use native.Mathlib.Nat.{mod-eq_of_lt}
use lib.Dec.{ltb, leb, leb-suc-suc}
use lib.IntN.{ℤ, pos, negsuc, neg_ℤ, +ℤ_assoc, neg_ℤ-+ℤ, ◌+ℤ◌, ◌-ℤ◌, +ℤ_comm, -ℤ-+ℤ_cancel, +ℤ-neg_ℤ_cancel}
use lib.Signed.{mag}
use borrow.Author.Tests.{lt-ltb, le-ltb, le-leb, ltb-true, ltb-false}
use Rattle.refusals.specs.Answer.{Done, Refused, pick}
use Rattle.refusals.specs.Table.{arithmetic, too_far}
use Rattle.int64.specs.Num.{mod_z, fit}
use Rattle.branch.specs.Branch.{offset, in_reach, byte_of, distance_of, signed, reached}
use Rattle.refusals.proofs.Never.{never}

-- ---- offsets and bytes

reach_mag : (z : ℤ) → in_reach z ≡ ltb (mag z) 128
reach_mag (pos n) = sym (leb-suc-suc n 127)
reach_mag (negsuc n) = and-true (leb n 127) ∙ sym (leb-suc-suc n 127)

small : (n : ℕ) → n < 256 → n % 256 ≡ n
small n h = mod-eq_of_lt h

-- the byte of an offset in reach stands for it
signed_byte : (z : ℤ) → mag z < 128 → signed (mod_z 256 z) ≡ z
signed_byte (pos n) h = rw (small n (omega arith), lt-ltb n 128 h)
signed_byte (negsuc n) h = rw (small n (omega arith), le-ltb (256 - 1 - n) 128 (omega arith)) (ap negsuc (omega arith))

stands_for : (z : ℤ) (b : ℕ) (t : Bool) → ltb (mag z) 128 ≡ t
    → pick t (Done (mod_z 256 z)) (Refused too_far) ≡ Done b → signed b ≡ z
stands_for z b true h e = let p : mod_z 256 z ≡ b = cc in ap signed (sym p) ∙ signed_byte z (ltb-true (mag z) 128 h)
stands_for z b false h e = never (cc)

-- a byte is that of the offset that it stands for
byte_signed : (b : ℕ) → b < 256 → (t : Bool) → ltb b 128 ≡ t → byte_of (pick t (pos b) (negsuc (255 - b))) ≡ Done b
byte_signed b h true e =
    let l : b < 128 = ltb-true b 128 e in
    rw (le-leb b 127 (omega arith), small b h)
byte_signed b h false e =
    let l : 128 ≤ b = ltb-false b 128 e in
    rw (le-leb (255 - b) 127 (omega arith), small (255 - b) (omega arith)) (ap Done (omega arith))

-- ---- the two theorems

-- where a byte is answered, the branch reaches the target
pub reaches : (place target : ℤ) (b : ℕ) → distance_of place target ≡ Done b → reached place b ≡ target
unfolding distance_of
reaches place target b e =
    let next : ℤ = place +ℤ pos 2 in
    let z : ℤ = target -ℤ next in
    let p : signed b ≡ z = stands_for z b (ltb (mag z) 128) refl (rw (← reach_mag z) e) in
    ap (λ (y : ℤ). next +ℤ y) p ∙ +ℤ_comm next z ∙ -ℤ-+ℤ_cancel target next

-- each byte is answered for the target that it reaches
pub answers : (place : ℤ) (b : ℕ) → b < 256 → distance_of place (reached place b) ≡ Done b
unfolding distance_of
answers place b h =
    let next : ℤ = place +ℤ pos 2 in
    ap (λ (y : ℤ). byte_of (y -ℤ next)) (+ℤ_comm next (signed b)) ∙ ap byte_of (+ℤ-neg_ℤ_cancel (signed b) next) ∙
    byte_signed b h (ltb b 128) refl

-- ---- how the code comes to the offset

-- the way from the place, and two off it
way : (place target : ℤ) → target -ℤ place -ℤ pos 2 ≡ offset place target
way place target =
    +ℤ_assoc target (neg_ℤ place) (neg_ℤ (pos 2)) ∙ ap (λ (w : ℤ). target +ℤ w) (sym (neg_ℤ-+ℤ place (pos 2)))

-- what a subtraction gave
fitted : (z d : ℤ) (t : Bool) → Done d ≡ pick t (Done z) (Refused arithmetic) → d ≡ z
fitted z d true e = cc
fitted z d false e = never (cc)

pub two_off : (place target d : ℤ) → Done d ≡ fit (target -ℤ place) → byte_of (d -ℤ pos 2) ≡ distance_of place target
unfolding distance_of
two_off place target d e =
    let z : ℤ = target -ℤ place in
    ap (λ (w : ℤ). byte_of (w -ℤ pos 2)) (fitted z d (ltb (mag z) (2 ^ 63)) e) ∙ ap byte_of (way place target)
