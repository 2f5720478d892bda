-- A number below zero, modulo m: its bits count down from a multiple of m. From one law come the low bytes of a number and
-- the product that a left shift keeps the low bits of. Assumes nothing.
use Rattle.std.proofs.Common.{◌≡◌, ℕ, zero, suc, ◌+◌, ◌-◌, ◌*◌, ◌/◌, ◌%◌, ◌^◌, ◌<◌, ℤ, pos, negsuc, ◌*ℤ◌, neg_ℤ, sym, refl, ap, ◌∙◌, subst, mod-lt, mod-eq_of_lt, suc-mul, div-lt_iff_lt-mul, add-mul, div-add-mod', arith, w64, SFits, of_z}
use native.Mathlib.Nat.{add-mul-mod_self_right}
use Rattle.int64.specs.Num.{mod_z}

counted_down : (m q n : ℕ) → 0 < m → n < q * m → (q * m - suc n) % m ≡ m - 1 - n % m
counted_down m q n h l =
    let e : n / m * m + n % m ≡ n = div-add-mod' n m in
    let s : n % m < m = mod-lt n h in
    let b : n / m < q = (div-lt_iff_lt-mul h).1 l in
    let over : ℕ = q - suc (n / m) in
    let c : q ≡ suc (n / m) + over = omega arith in
    let p : q * m ≡ n / m * m + m + over * m = ap (λ (k : ℕ). k * m) c ∙ add-mul (suc (n / m)) over m ∙ ap (λ (k : ℕ). k + over * m) (suc-mul (n / m) m) in
    let w : q * m - suc n ≡ m - 1 - n % m + over * m = omega arith in
    ap (λ (k : ℕ). k % m) w ∙ add-mul-mod_self_right (m - 1 - n % m) over m ∙ mod-eq_of_lt (omega arith)

-- the bits of z modulo m, where m divides 2 ^ 64
pub low_bits : (m q : ℕ) → 0 < m → q * m ≡ 2 ^ 64 → (z : ℤ) → SFits w64 z → of_z w64 z % m ≡ mod_z m z
low_bits m q h e (pos n) f = refl
low_bits m q h e (negsuc n) f =
    ap (λ (k : ℕ). (k - suc n) % m) (sym e) ∙ counted_down m q n h (subst (λ (k : ℕ). n < k) (sym e) (omega (arith, f.sfits)))

mod_neg : (m k : ℕ) → 0 < k → mod_z m (neg_ℤ (pos k)) ≡ m - 1 - (k - 1) % m
mod_neg m zero h = absurd (omega arith)
mod_neg m (suc j) h = ap (λ (i : ℕ). m - 1 - i % m) (omega arith)

-- the product with y, modulo 2 ^ 64, is that of the bits
pub low_product : (a : ℤ) (y : ℕ) → 0 < y → SFits w64 a → (of_z w64 a * y) % 2 ^ 64 ≡ mod_z (2 ^ 64) (a *ℤ pos y)
low_product (pos x) y h f = refl
low_product (negsuc x) y h f =
    let b : x < 2 ^ 63 = f.sfits in
    let t : ℕ = 2 ^ 64 - suc x in
    let w : t + suc x ≡ 2 ^ 64 = omega arith in
    let p : t * y + suc x * y ≡ 2 ^ 64 * y = sym (add-mul t (suc x) y) ∙ ap (λ (k : ℕ). k * y) w in
    let k : 0 < suc x * y = omega (arith, suc-mul x y) in
    let e : t * y ≡ y * 2 ^ 64 - suc (suc x * y - 1) = omega arith in
    let l : suc x * y - 1 < y * 2 ^ 64 = omega arith in
    ap (λ (i : ℕ). i % 2 ^ 64) e ∙ counted_down (2 ^ 64) y (suc x * y - 1) (omega arith) l ∙ sym (mod_neg (2 ^ 64) (suc x * y) k)
