-- The operators refuse with document 01's 10 and with nothing else. Assumes nothing.
use mathlib.Core.Bool.{Bool, true, false}
use Prim.Native.Nat.{ℕ, ◌≤◌, ◌^◌}
use native.Mathlib.Omega.{arith}
use lib.Dec.{eqb, ltb}
use lib.IntN.{ℤ, nat_abs, ◌+ℤ◌, ◌-ℤ◌, ◌*ℤ◌}
use lib.ListN.{get_or}
use lib.Signed.{mag, quot_z, rem_z}
use borrow.Author.Tests.{lt-ltb}
use Rattle.refusals.specs.Answer.{Answer, Done, Refused, pick, and_then}
use Rattle.refusals.specs.Table.{arithmetic}
use Rattle.int64.specs.Num.{fit, counts, shifted_by, halved_by}
use Rattle.operators.specs.Operators.{operators, operated, applied}
use Rattle.operators.specs.Operators.{Operator, Add, Sub, Mul, Div, Mod, Shl, Shr, Xor, Eq, Ne, Gt, GtEq, Lt, LtEq, And, Or}

-- a number, or refused by arithmetic
pub data Arithmetic : Answer ℤ → Type 0 where
  done : {z : ℤ} → Arithmetic (Done z)
  out : Arithmetic (Refused arithmetic)

pub either : (t : Bool) {a b : Answer ℤ} → Arithmetic a → Arithmetic b → Arithmetic (pick t a b)
either true p q = p
either false p q = q

then_done : (z : ℤ) {a : Answer ℤ} → Arithmetic a → Arithmetic (and_then a (λ q. Done z))
then_done z done = done
then_done z out = out

pub fit_arithmetic : (z : ℤ) → Arithmetic (fit z)
fit_arithmetic z = either (ltb (mag z) (2 ^ 63)) done out

shifted_arithmetic : (t : Bool) (a : ℤ) (n : ℕ) → Arithmetic (shifted_by t a n)
shifted_arithmetic true a n = done
shifted_arithmetic false a n = out

halved_arithmetic : (t : Bool) (a : ℤ) (n : ℕ) → Arithmetic (halved_by t a n)
halved_arithmetic true a n = done
halved_arithmetic false a n = out

operated_arithmetic : (op : Operator) (a b : ℤ) → Arithmetic (operated op a b)
operated_arithmetic Add a b = fit_arithmetic (a +ℤ b)
operated_arithmetic Sub a b = fit_arithmetic (a -ℤ b)
operated_arithmetic Mul a b = fit_arithmetic (a *ℤ b)
operated_arithmetic Div a b = either (eqb (nat_abs b) 0) done (fit_arithmetic (quot_z a b))
operated_arithmetic Mod a b = either (eqb (nat_abs b) 0) done (then_done (rem_z a b) (fit_arithmetic (quot_z a b)))
operated_arithmetic Shl a b = shifted_arithmetic (counts b) a (nat_abs b)
operated_arithmetic Shr a b = halved_arithmetic (counts b) a (nat_abs b)
operated_arithmetic Xor a b = done
operated_arithmetic Eq a b = done
operated_arithmetic Ne a b = done
operated_arithmetic Gt a b = done
operated_arithmetic GtEq a b = done
operated_arithmetic Lt a b = done
operated_arithmetic LtEq a b = done
operated_arithmetic And a b = done
operated_arithmetic Or a b = done

pub applied_arithmetic : (op : ℕ) (a b : ℤ) → op ≤ 15 → Arithmetic (applied op a b)
applied_arithmetic op a b h = rw (lt-ltb op 16 (omega arith)) (operated_arithmetic (get_or operators op Add) a b)
