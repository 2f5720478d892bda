-- Laws of i64: its bits, its sign and size, and what fits. Assumes nothing.
use Rattle.std.proofs.Common.{◌≡◌, ℕ, zero, suc, ◌+◌, ◌-◌, ◌*◌, ◌/◌, ◌%◌, ◌^◌, ◌<◌, ◌≤◌, Bool, true, false, not, T, ltb, ℤ, pos, negsuc, ◌+ℤ◌, ◌*ℤ◌, neg_ℤ, nat_abs, sym, refl, ap, ◌∙◌, subst, lt_of_le_of_lt, mul_assoc, arith, pow_pos, pow-add, to_z-of_z, w64, Fits, SFits, to_z, of_z, ltb-true, le-ltb, lt-ltb, eq-eqb, ne_eqb}
use mathlib.Core.Bool.{beq}
use native.Mathlib.Nat.{add-mod}
use native.Mathlib.Decide.{dec_lt}
use lib.Dec.{leb-suc-zero}
use lib.IntN.{sub_ℕ, neg_ℤ-+ℤ}
use lib.Signed.{mag, lt_z, non_neg, quot_z, rem_z, shr_z, mag_shr, mag_rem}
use mir.Facts.{to_z_pos, to_z-neg, Fits-nat_abs}
use mir.ValLaws.{sfits_le}
use Rattle.int64.proofs.Modulo.{low_bits, low_product}
use Rattle.refusals.specs.Answer.{Answer, Done, Refused, pick, and_then}
use Rattle.refusals.specs.Table.{arithmetic}
use Rattle.int64.specs.Num.{fit, mod_z, wrapped, counts, shifted, shifted_by, halved, halved_by, remaining, eq_z, low_byte, high_byte}
use Rattle.int64.specs.SignAndSize.{below_zero, signed, apart}

-- ---- the test `x < 0`, and the bits of what is below zero

pub lt_zero : (x : ℤ) → lt_z x (pos 0) ≡ below_zero x
lt_zero (pos a) = leb-suc-zero a
lt_zero (negsuc a) = refl

comp : (x : ℤ) → SFits w64 x → lt_z x (pos 0) ≡ true → to_z w64 (18446744073709551615 - of_z w64 x) ≡ pos (mag x)
comp (pos a) f t = absurd (omega (arith, ltb-true a 0 t))
comp (negsuc a) f t =
    let h : a < 2 ^ 63 = f.sfits in
    let e : 18446744073709551615 - (2 ^ 64 - suc a) ≡ a = omega arith in
    ap (to_z w64) e ∙ to_z_pos w64 h

-- `!x` of an x below zero
pub flipped : (x : ℤ) → SFits w64 x → lt_z (to_z w64 (of_z w64 x)) (pos 0) ≡ true → to_z w64 (18446744073709551615 - of_z w64 x) ≡ pos (mag x)
flipped x f t = comp x f (ap (λ (z : ℤ). lt_z z (pos 0)) (sym (to_z-of_z f)) ∙ t)

below : (x : ℤ) → lt_z x (pos 0) ≡ true → nat_abs x ≡ mag x + 1
below (pos a) t = absurd (omega (arith, ltb-true a 0 t))
below (negsuc a) t = omega arith

pub size_below : (x : ℤ) → SFits w64 x → lt_z (to_z w64 (of_z w64 x)) (pos 0) ≡ true → nat_abs x ≡ mag x + 1
size_below x f t = below x (ap (λ (z : ℤ). lt_z z (pos 0)) (sym (to_z-of_z f)) ∙ t)

above : (x : ℤ) → lt_z x (pos 0) ≡ false → T (non_neg x)
above (pos a) t = tt
above (negsuc a) t = subst T t tt

-- what the cast of an x that is not below zero asks
pub cast_above : (x : ℤ) → SFits w64 x → lt_z (to_z w64 (of_z w64 x)) (pos 0) ≡ false → T (non_neg (to_z w64 (of_z w64 x))) × Fits w64 (nat_abs (to_z w64 (of_z w64 x)))
cast_above x f t =
    rw (to_z-of_z f)
    (above x (ap (λ (z : ℤ). lt_z z (pos 0)) (sym (to_z-of_z f)) ∙ t), Fits-nat_abs tt f)

w_below : (x : ℤ) → SFits w64 x → lt_z x (pos 0) ≡ true → 18446744073709551615 - mag x ≡ of_z w64 x
w_below (pos a) f t = absurd (omega (arith, ltb-true a 0 t))
w_below (negsuc a) f t = omega (arith, f.sfits)

pub word_below : (x : ℤ) → SFits w64 x → lt_z (to_z w64 (of_z w64 x)) (pos 0) ≡ true → 18446744073709551615 - mag x ≡ of_z w64 x
word_below x f t = w_below x f (ap (λ (z : ℤ). lt_z z (pos 0)) (sym (to_z-of_z f)) ∙ t)

w_above : (x : ℤ) → T (non_neg x) → nat_abs x ≡ of_z w64 x
w_above (pos a) t = refl
w_above (negsuc a) t = absurd t

pub word_above : (x : ℤ) → SFits w64 x → lt_z (to_z w64 (of_z w64 x)) (pos 0) ≡ false → nat_abs (to_z w64 (of_z w64 x)) ≡ of_z w64 x
word_above x f t = ap nat_abs (to_z-of_z f) ∙ w_above x (above x (ap (λ (z : ℤ). lt_z z (pos 0)) (sym (to_z-of_z f)) ∙ t))

-- ---- what fits

fit_in : (z : ℤ) → mag z < 2 ^ 63 → fit z ≡ Done z
fit_in z h = simp (lt-ltb (mag z) (2 ^ 63) h)

fit_out : (z : ℤ) → 2 ^ 63 ≤ mag z → fit z ≡ Refused arithmetic
fit_out z h = simp (le-ltb (mag z) (2 ^ 63) h)

big : (s : Bool) (m : ℕ) → 2 ^ 63 < m → 2 ^ 63 ≤ mag (signed s m)
big true zero h = absurd (omega arith)
big true (suc k) h = omega arith
big false m h = omega arith

pub signed_out : (s : Bool) (m : ℕ) → 2 ^ 63 < m → Refused arithmetic ≡ fit (signed s m)
signed_out s m h = sym (fit_out (signed s m) (big s m h))

pub join_above : (s : Bool) (m : ℕ) → s ≡ false → m < 2 ^ 63 → Done (to_z w64 m) ≡ fit (signed s m)
join_above s m e h = rw e (ap Done (to_z_pos w64 h) ∙ sym (fit_in (pos m) h))

pub join_over : (s : Bool) (m : ℕ) → s ≡ false → 2 ^ 63 ≤ m → Refused arithmetic ≡ fit (signed s m)
join_over s m e h = rw e (sym (fit_out (pos m) h))

below_zero_lem : (m : ℕ) → ((m ≡ 0) → ⊥) → m ≤ 2 ^ 63 → Done (to_z w64 (18446744073709551615 - (m - 1))) ≡ fit (neg_ℤ (pos m))
below_zero_lem zero n h = absurd (n refl)
below_zero_lem (suc k) n h =
    let g : k < 2 ^ 63 = omega arith in
    let e : 18446744073709551615 - (suc k - 1) ≡ 2 ^ 64 - suc k = omega arith in
    ap (λ (b : ℕ). Done (to_z w64 b)) e ∙ ap Done (to_z-neg w64 k g) ∙ sym (fit_in (negsuc k) g)

pub join_below : (s : Bool) (m : ℕ) → s ≡ true → ((m ≡ 0) → ⊥) → m ≤ 2 ^ 63 → Done (to_z w64 (18446744073709551615 - (m - 1))) ≡ fit (signed s m)
join_below s m e n h = rw e (below_zero_lem m n h)

-- ---- sums by sign and size

sub_ge : (x y : ℕ) → y ≤ x → sub_ℕ x y ≡ pos (x - y)
sub_ge x y h = simp (le-ltb x y h)

neg_pos : (m : ℕ) → 0 < m → negsuc (m - 1) ≡ neg_ℤ (pos m)
neg_pos zero h = absurd (omega arith)
neg_pos (suc k) h = ap negsuc (omega arith)

sub_lt : (x y : ℕ) → x < y → sub_ℕ x y ≡ neg_ℤ (pos (y - x))
sub_lt x y h =
    let e : y - suc x ≡ y - x - 1 = omega arith in
    let p : 0 < y - x = omega arith in
    simp (lt-ltb x y h) (ap negsuc e ∙ neg_pos (y - x) p)

sub_le' : (x y : ℕ) → x ≤ y → Dec (x < y) → sub_ℕ x y ≡ neg_ℤ (pos (y - x))
sub_le' x y h (yes l) = sub_lt x y l
sub_le' x y h (no n) =
    let e : x ≡ y = lt_or x y h n in
    let z : x - y ≡ 0 = omega arith in
    let w : y - x ≡ 0 = omega arith in
    sub_ge x y (omega arith) ∙ ap pos z ∙ ap (λ (k : ℕ). neg_ℤ (pos k)) (sym w)
  where
    lt_or : (x y : ℕ) → x ≤ y → ((x < y) → ⊥) → x ≡ y
    lt_or x y h n = omega (arith, n)

pub apart_ge : (s : Bool) (x y : ℕ) → y ≤ x → signed s (x - y) ≡ apart s x y
apart_ge true x y h = sym (sub_le' y x h (dec_lt y x))
apart_ge false x y h = sym (sub_ge x y h)

pub apart_lt : (s : Bool) (x y : ℕ) → x < y → signed (not s) (y - x) ≡ apart s x y
apart_lt true x y h = sym (sub_ge y x (omega arith))
apart_lt false x y h = sym (sub_lt x y h)

pub same_sign : (s : Bool) (x y : ℕ) → signed s (x + y) ≡ signed s x +ℤ signed s y
same_sign true x y = neg_ℤ-+ℤ (pos x) (pos y)
same_sign false x y = refl

pub other_sign : (s : Bool) (x y : ℕ) → apart s x y ≡ signed s x +ℤ signed (not s) y
other_sign true zero y = sub_ge y 0 (omega arith) ∙ ap pos (omega arith)
other_sign true (suc k) y = refl
other_sign false x zero = sub_ge x 0 (omega arith) ∙ ap pos (omega arith)
other_sign false x (suc k) = refl

-- ---- a number by its sign and size

rejoin : (z : ℤ) → signed (below_zero z) (nat_abs z) ≡ z
rejoin (pos n) = refl
rejoin (negsuc n) = refl

rejoin_neg : (z : ℤ) → signed (not (below_zero z)) (nat_abs z) ≡ neg_ℤ z
rejoin_neg (pos n) = refl
rejoin_neg (negsuc n) = refl

-- An i64 that is passed to a function is read back from its bits, so that what a callee ensures speaks of `back z`
abbrev pub back : ℤ → ℤ
back z = to_z w64 (of_z w64 z)

pub rejoined : {z : ℤ} {s : Bool} {m : ℕ} → SFits w64 z → s ≡ below_zero (back z) → m ≡ nat_abs (back z) → signed s m ≡ z
rejoined {z} f p q = rw (p, q) (rejoin (back z) ∙ to_z-of_z f)

pub rejoined_neg : {z : ℤ} {s : Bool} {m : ℕ} → SFits w64 z → s ≡ below_zero (back z) → m ≡ nat_abs (back z) → signed (not s) m ≡ neg_ℤ z
rejoined_neg {z} f p q = rw (p, q) (rejoin_neg (back z) ∙ ap neg_ℤ (to_z-of_z f))

-- ---- products and quotients by sign and size

mul_law : (a b : ℤ) → signed (not (beq (below_zero a) (below_zero b))) (nat_abs a * nat_abs b) ≡ a *ℤ b
mul_law (pos a) (pos b) = refl
mul_law (pos a) (negsuc b) = refl
mul_law (negsuc a) (pos b) = refl
mul_law (negsuc a) (negsuc b) = refl

quot_law : (a b : ℤ) → signed (not (beq (below_zero a) (below_zero b))) (nat_abs a / nat_abs b) ≡ quot_z a b
quot_law (pos a) (pos b) = refl
quot_law (pos a) (negsuc b) = refl
quot_law (negsuc a) (pos b) = refl
quot_law (negsuc a) (negsuc b) = refl

module _ {a b : ℤ} {na nb : Bool} {x y : ℕ} (f : SFits w64 a) (g : SFits w64 b) (p : na ≡ below_zero (back a)) (q : nb ≡ below_zero (back b)) (r : x ≡ nat_abs (back a)) (s : y ≡ nat_abs (back b)) where
  pub multiplied : signed (not (beq na nb)) (x * y) ≡ a *ℤ b
  multiplied = rw (p, q, r, s) (mul_law (back a) (back b) ∙ rw (to_z-of_z f, to_z-of_z g) refl)

  pub quotient : signed (not (beq na nb)) (x / y) ≡ quot_z a b
  quotient = rw (p, q, r, s) (quot_law (back a) (back b) ∙ rw (to_z-of_z f, to_z-of_z g) refl)

-- ---- doubling

pub twice : (w i : ℕ) → ((w * 2 ^ i) % 2 ^ 64 + (w * 2 ^ i) % 2 ^ 64) % 2 ^ 64 ≡ (w * 2 ^ (i + 1)) % 2 ^ 64
twice w i =
    let e : w * 2 ^ i * 2 ≡ w * 2 ^ (i + 1) = mul_assoc w (2 ^ i) 2 ∙ ap (λ (k : ℕ). w * k) (sym (pow-add 2 i 1)) in
    let d : w * 2 ^ i + w * 2 ^ i ≡ w * 2 ^ i * 2 = omega arith in
    sym (add-mod (w * 2 ^ i) (w * 2 ^ i) (2 ^ 64)) ∙ ap (λ (k : ℕ). k % 2 ^ 64) (d ∙ e)

-- ---- comparisons

pub read_both : (order : ℤ → ℤ → Bool) {a b : ℤ} → SFits w64 a → SFits w64 b → order (back a) (back b) ≡ order a b
read_both order f g = rw (to_z-of_z f, to_z-of_z g) refl

eq_z_same : (a : ℤ) → eq_z a a ≡ true
eq_z_same (pos a) = eq-eqb a a refl
eq_z_same (negsuc a) = eq-eqb a a refl

pub eq_z_yes : {a b : ℤ} → a ≡ b → true ≡ eq_z a b
eq_z_yes {a} {b} e = sym (ap (λ (z : ℤ). eq_z a z) (sym e) ∙ eq_z_same a)

pub eq_z_no : (a b : ℤ) → ((a ≡ b) → ⊥) → false ≡ eq_z a b
eq_z_no (pos a) (pos b) n = sym (ne_eqb a b (λ e. n (ap pos e)))
eq_z_no (pos a) (negsuc b) n = refl
eq_z_no (negsuc a) (pos b) n = refl
eq_z_no (negsuc a) (negsuc b) n = sym (ne_eqb a b (λ e. n (ap negsuc e)))

-- the bits of two numbers are the same just where the numbers are
pub same_bits : {a b : ℤ} → SFits w64 a → SFits w64 b → of_z w64 a ≡ of_z w64 b → a ≡ b
same_bits f g e = sym (to_z-of_z f) ∙ ap (to_z w64) e ∙ to_z-of_z g

-- ---- a shift's count

no_count : (k : ℤ) → below_zero k ≡ true → counts k ≡ false
no_count (pos n) e = cc
no_count (negsuc n) e = refl

count : (k : ℤ) → below_zero k ≡ false → counts k ≡ ltb (nat_abs k) 64
count (pos n) e = refl
count (negsuc n) e = cc

module _ {k : ℤ} {s : Bool} (f : SFits w64 k) (p : s ≡ below_zero (back k)) where
  pub below_count : s ≡ true → counts k ≡ false
  below_count t = no_count k (ap below_zero (sym (to_z-of_z f)) ∙ sym p ∙ t)

  pub counted : {m : ℕ} → s ≡ false → m ≡ nat_abs (back k) → counts k ≡ ltb m 64
  counted {m} t e = count k (ap below_zero (sym (to_z-of_z f)) ∙ sym p ∙ t) ∙ ap (λ (n : ℕ). ltb n 64) (sym (e ∙ ap nat_abs (to_z-of_z f)))

pub shifted_out : (a k : ℤ) → counts k ≡ false → Refused arithmetic ≡ shifted a k
shifted_out a k e = sym (ap (λ (b : Bool). shifted_by b a (nat_abs k)) e)

pub shifted_in : {a k r : ℤ} {d w n : ℕ} → SFits w64 a → SFits w64 k → SFits w64 r → counts k ≡ true → w ≡ of_z w64 (back a) → n ≡ nat_abs (back k) → d ≡ (w * 2 ^ n) % 2 ^ 64 → r ≡ to_z w64 d → Done (back r) ≡ shifted a k
shifted_in {a} {k} {d = d} {w = w} {n = n} f g h e ew en ed er =
    let ea : w ≡ of_z w64 a = ew ∙ ap (of_z w64) (to_z-of_z f) in
    let ek : n ≡ nat_abs k = en ∙ ap nat_abs (to_z-of_z g) in
    let z : d ≡ mod_z (2 ^ 64) (a *ℤ pos (2 ^ n)) = ed ∙ ap (λ (x : ℕ). (x * 2 ^ n) % 2 ^ 64) ea ∙ low_product a (2 ^ n) (pow_pos n) f in
    ap Done (to_z-of_z h ∙ er ∙ ap (to_z w64) z) ∙ ap (λ (x : ℕ). Done (wrapped (a *ℤ pos (2 ^ x)))) ek
    ∙ sym (ap (λ (b : Bool). shifted_by b a (nat_abs k)) e)

pub halved_out : (a k : ℤ) → counts k ≡ false → Refused arithmetic ≡ halved a k
halved_out a k e = sym (ap (λ (b : Bool). halved_by b a (nat_abs k)) e)

pub halved_in : {a k : ℤ} {n : ℕ} → SFits w64 a → SFits w64 k → counts k ≡ true → n ≡ nat_abs (back k) → Done (back (shr_z (back a) (2 ^ n))) ≡ halved a k
halved_in {a} {k} {n} f g e en =
    let ek : n ≡ nat_abs k = en ∙ ap nat_abs (to_z-of_z g) in
    let h : SFits w64 (shr_z a (2 ^ n)) = sfits_le (mag_shr a (2 ^ n)) f in
    ap (λ (z : ℤ). Done (back (shr_z z (2 ^ n)))) (to_z-of_z f) ∙ ap Done (to_z-of_z h) ∙ ap (λ (x : ℕ). Done (shr_z a (2 ^ x))) ek
    ∙ sym (ap (λ (b : Bool). halved_by b a (nat_abs k)) e)

-- ---- remainders

rem_law : (a b : ℤ) → signed (below_zero a) (nat_abs a % nat_abs b) ≡ rem_z a b
rem_law (pos a) b = refl
rem_law (negsuc a) b = refl

pub remainder : {a b : ℤ} {na : Bool} {x y : ℕ} → SFits w64 a → SFits w64 b → na ≡ below_zero (back a) → x ≡ nat_abs (back a) → y ≡ nat_abs (back b) → signed na (x % y) ≡ rem_z a b
remainder {a} {b} f g p r s = rw (p, r, s) (rem_law (back a) (back b) ∙ rw (to_z-of_z f, to_z-of_z g) refl)

-- what is left is never out of range
remaining_in : {a : ℤ} → SFits w64 a → (b : ℤ) → fit (rem_z a b) ≡ Done (rem_z a b)
remaining_in {a} f b = fit_in (rem_z a b) (lt_of_le_of_lt (mag_rem a b) f.sfits)

module _ {a : ℤ} (f : SFits w64 a) (b : ℤ) where
  -- by zero
  pub remaining_zero : nat_abs b ≡ 0 → Done (pos 0) ≡ remaining a b
  remaining_zero e = sym (ap (λ (t : Bool). pick t (Done (pos 0)) (and_then (fit (quot_z a b)) (λ q. Done (rem_z a b)))) (eq-eqb (nat_abs b) 0 e))

  rest : ((nat_abs b ≡ 0) → ⊥) → and_then (fit (quot_z a b)) (λ q. Done (rem_z a b)) ≡ remaining a b
  rest n = sym (ap (λ (t : Bool). pick t (Done (pos 0)) (and_then (fit (quot_z a b)) (λ q. Done (rem_z a b)))) (ne_eqb (nat_abs b) 0 n))

  -- the quotient is refused
  pub remaining_out : {n : ℕ} → ((nat_abs b ≡ 0) → ⊥) → fit (quot_z a b) ≡ Refused n → Refused n ≡ remaining a b
  remaining_out n e = ap (λ (q : Answer ℤ). and_then q (λ z. Done (rem_z a b))) (sym e) ∙ rest n

  -- the quotient is not refused
  pub remaining_is : {q : ℤ} {x : Answer ℤ} → ((nat_abs b ≡ 0) → ⊥) → fit (quot_z a b) ≡ Done q → x ≡ fit (rem_z a b) → x ≡ remaining a b
  remaining_is n e p = p ∙ remaining_in f b ∙ ap (λ (q : Answer ℤ). and_then q (λ z. Done (rem_z a b))) (sym e) ∙ rest n

-- ---- low bytes

-- of an m that divides 2 ^ 64
pub low_is : (m q : ℕ) {z : ℤ} {w : ℕ} → 0 < m → q * m ≡ 2 ^ 64 → SFits w64 z → w ≡ of_z w64 (back z) → w % m ≡ mod_z m z
low_is m q {z} h d f e = ap (λ (k : ℕ). k % m) (e ∙ ap (of_z w64) (to_z-of_z f)) ∙ low_bits m q h d z f

pub high_is : {z : ℤ} {r : ℕ} → SFits w64 z → r ≡ low_byte (back (shr_z (back z) 256)) → r ≡ high_byte z
high_is {z} f e =
    let g : SFits w64 (shr_z z 256) = sfits_le (mag_shr z 256) f in
    e ∙ ap (λ (x : ℤ). low_byte (back (shr_z x 256))) (to_z-of_z f) ∙ ap low_byte (to_z-of_z g)
