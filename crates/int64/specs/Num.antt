-- What arithmetic on i64 gives, over the integers: document 01's "Evaluator" and its refusal 10. +, -, *, the order and the
-- quotient and remainder are the library's own on ℤ. Assumes nothing: these are definitions.
use Rattle.std.specs.Prelude.{ℕ, ◌-◌, ◌%◌, ◌^◌, Bool, true, false, ◌&&◌, ℤ, pos, negsuc, ◌*ℤ◌, ◌==◌, bit_xor, int_div, int_rem, nat_lt, unsigned_abs}
use Rattle.std.specs.Int.Signed.{mag, non_neg, shr_z}
use Rattle.std.specs.Int.{w64}
use Rattle.std.proofs.Common.{to_z, of_z}
use Rattle.refusals.specs.Answer.{Answer, Done, Refused, pick, and_then}
use Rattle.refusals.specs.Table.{arithmetic}

-- ---- what an i64 holds

-- "+, -, *, NEG out of i64": z from -2^63 to 2^63 - 1, else 10. (`mag` is n both of n and of -(n + 1).)
abbrev pub fit : ℤ → Answer ℤ
fit z = pick (nat_lt (mag z) (2 ^ 63)) (Done z) (Refused arithmetic)

-- z modulo m, from 0 to m - 1; of -(n + 1) it counts down from m - 1
abbrev pub mod_z : ℕ → ℤ → ℕ
mod_z m (pos n) = n % m
mod_z m (negsuc n) = m - 1 - n % m

-- "the low 64 bits, read as signed"
abbrev pub wrapped : ℤ → ℤ
wrapped z = to_z w64 (mod_z (2 ^ 64) z)

-- ---- division

-- "Division truncates toward zero; a zero divisor gives 0"; "smallest i64 / or % by -1": 10
abbrev pub divided : ℤ → ℤ → Answer ℤ
divided a b = pick (unsigned_abs b == 0) (Done (pos 0)) (fit (int_div a b))

-- what the division leaves, with the dividend's sign; refused where the quotient is: "smallest i64 / or % by -1"
abbrev pub remaining : ℤ → ℤ → Answer ℤ
remaining a b = pick (unsigned_abs b == 0) (Done (pos 0)) (and_then (fit (int_div a b)) (λ q. Done (int_rem a b)))

-- ---- shifts

-- "a shift count outside 0..63": 10
abbrev pub counts : ℤ → Bool
counts k = non_neg k && nat_lt (unsigned_abs k) 64

-- by clauses, and not by `pick`, so that no power is computed at a count that is refused
abbrev pub shifted_by : Bool → ℤ → ℕ → Answer ℤ
shifted_by true a n = Done (wrapped (a *ℤ pos (2 ^ n)))
shifted_by false a n = Refused arithmetic

-- "A left shift keeps the low 64 bits, read as signed"
abbrev pub shifted : ℤ → ℤ → Answer ℤ
shifted a k = shifted_by (counts k) a (unsigned_abs k)

abbrev pub halved_by : Bool → ℤ → ℕ → Answer ℤ
halved_by true a n = Done (shr_z a (2 ^ n))
halved_by false a n = Refused arithmetic

-- "a right shift rounds down"
abbrev pub halved : ℤ → ℤ → Answer ℤ
halved a k = halved_by (counts k) a (unsigned_abs k)

-- ---- bits, and the same number

-- the exclusive or of the bits
abbrev pub xored : ℤ → ℤ → ℤ
xored a b = to_z w64 (bit_xor (of_z w64 a) (of_z w64 b))

-- whether two numbers are the same
abbrev pub eq_z : ℤ → ℤ → Bool
eq_z (pos a) (pos b) = a == b
eq_z (pos a) (negsuc b) = false
eq_z (negsuc a) (pos b) = false
eq_z (negsuc a) (negsuc b) = a == b

-- ---- low bytes

-- "Low byte is the number modulo 256"
abbrev pub low_byte : ℤ → ℕ
low_byte z = mod_z 256 z

-- "high byte its floor quotient by 256, modulo 256"
abbrev pub high_byte : ℤ → ℕ
high_byte z = mod_z 256 (shr_z z 256)

-- the low 16 bits
abbrev pub low_word : ℤ → ℕ
low_word z = mod_z 65536 z
