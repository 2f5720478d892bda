-- The operators of a tape, over the integers: document 01's "Evaluator". What +, -, *, division and shifts give is that of int64. Assumes
-- nothing: these are definitions.
use Rattle.std.specs.Prelude.{ℕ, Bool, true, false, not, ◌&&◌, ◌||◌, List, [], ◌∷◌, ltb, eqb, ℤ, pos, nat_abs, ◌+ℤ◌, ◌-ℤ◌, ◌*ℤ◌, get_or}
use Rattle.std.specs.Int.Signed.{lt_z, le_z}
use Rattle.refusals.specs.Answer.{Answer, Done, Refused, pick, and_then}
use Rattle.refusals.specs.Table.{argument}
use Rattle.int64.specs.Num.{fit, divided, remaining, shifted, halved, xored, eq_z}

-- ---- truth values

-- a test's answer, as 0 or 1
abbrev pub flag : Bool → ℤ
flag true = pos 1
flag false = pos 0

-- whether z is not 0
abbrev pub is_on : ℤ → Bool
is_on z = not (eqb (nat_abs z) 0)

-- "NOT (0 to 1, else 0)"
abbrev pub not_of : ℤ → ℤ
not_of z = flag (not (is_on z))

-- ---- the sixteen operators

pub data Operator : Type 0 where
  Add Sub Mul Div Mod Shl Shr Xor Eq Ne Gt GtEq Lt LtEq And Or : Operator

-- "0..15 as Add Sub Mul Div Mod Shl Shr Xor Eq Ne Gt GtEq Lt LtEq And Or"
abbrev pub operators : List Operator
operators = Add ∷ Sub ∷ Mul ∷ Div ∷ Mod ∷ Shl ∷ Shr ∷ Xor ∷ Eq ∷ Ne ∷ Gt ∷ GtEq ∷ Lt ∷ LtEq ∷ And ∷ Or ∷ []

-- what an operator gives; by clauses, so that only the one that is asked for is computed
abbrev pub operated : Operator → ℤ → ℤ → Answer ℤ
operated Add a b = fit (a +ℤ b)
operated Sub a b = fit (a -ℤ b)
operated Mul a b = fit (a *ℤ b)
operated Div a b = divided a b
operated Mod a b = remaining a b
operated Shl a b = shifted a b
operated Shr a b = halved a b
operated Xor a b = Done (xored a b)
operated Eq a b = Done (flag (eq_z a b))
operated Ne a b = Done (flag (not (eq_z a b)))
operated Gt a b = Done (flag (lt_z b a))
operated GtEq a b = Done (flag (le_z b a))
operated Lt a b = Done (flag (lt_z a b))
operated LtEq a b = Done (flag (le_z a b))
operated And a b = Done (flag (is_on a && is_on b))
operated Or a b = Done (flag (is_on a || is_on b))

-- the operator of a number; none: 1
abbrev pub operator_of : ℕ → Answer Operator
operator_of n = pick (ltb n 16) (Done (get_or operators n Add)) (Refused argument)

abbrev pub applied : ℕ → ℤ → ℤ → Answer ℤ
applied n a b = and_then (operator_of n) (λ op. operated op a b)
