-- What an expression on a tape comes to: "expressions and factors, each meaning given in terms of the other". A meaning is where
-- the expression ends, and its value. Assumes nothing: these are definitions.
use Rattle.std.specs.Prelude.{ℕ, zero, suc, ◌+◌, List, eqb, ℤ, pos, neg_ℤ, length, get_or, Option, None, Some}
use Rattle.std.specs.Int.{w64}
use Rattle.std.proofs.Common.{to_z}
use Rattle.refusals.specs.Answer.{Answer, Done, Refused, pick}
use Rattle.refusals.specs.Table.{bad_record, too_deep}
use Rattle.int64.specs.Num.{fit, low_byte, high_byte}
use Rattle.operators.specs.Operators.{not_of, applied}
use Rattle.little.specs.Little.{number_at}
use Rattle.tape.specs.Kinds.{number, current_place, flags, binary, is_name}
use Rattle.tape.specs.Record.{bytes_at}

-- ---- values

-- a number; unresolved, with the offset of the first name that is; or a refusal, with the offset of the record that refused
pub data Value : Type 0 where
  Number : ℤ → Value
  Unresolved : (at : ℕ) → Value
  Refuses : (number at : ℕ) → Value

-- what arithmetic answers at a record
abbrev pub valued : ℕ → Answer ℤ → Value
valued at (Done z) = Number z
valued at (Refused n) = Refuses n at

-- "1 NOT, 2 NEG, 3 both"; "NOT (0 to 1, else 0) comes before NEG"
unfoldable pub flagged : ℕ → ℤ → Answer ℤ
flagged f z = pick (eqb f 1) (Done (not_of z)) (pick (eqb f 2) (fit (neg_ℤ z)) (fit (neg_ℤ (not_of z))))

-- what the flags at an offset make of a value
abbrev pub changed : (at f : ℕ) → Value → Value
changed at f (Refuses n i) = Refuses n i
changed at f (Unresolved i) = Unresolved i
changed at f (Number a) = valued at (flagged f a)

-- what the operator at an offset makes of two. "Left refusal, right refusal, unresolved, own refusal: in that order"
abbrev pub joined : (at op : ℕ) → Value → Value → Value
joined at op (Refuses n i) r = Refuses n i
joined at op (Unresolved i) (Refuses n j) = Refuses n j
joined at op (Unresolved i) (Unresolved j) = Unresolved i
joined at op (Unresolved i) (Number b) = Unresolved i
joined at op (Number a) (Refuses n j) = Refuses n j
joined at op (Number a) (Unresolved j) = Unresolved j
joined at op (Number a) (Number b) = valued at (applied op a b)

-- "modifier (0 none, 1 low, 2 high)"
unfoldable pub modified : ℕ → ℤ → ℤ
modified m z = pick (eqb m 0) z (pick (eqb m 1) (pos (low_byte z)) (pos (high_byte z)))

-- a name at an offset, from the number that it reaches, if it reaches one
abbrev pub named : ℕ → ℕ → Option ℤ → Value
named m at None = Unresolved at
named m at (Some z) = Number (modified m z)

-- ---- records

-- of the record at an offset, if it is of kind k, the first byte of its body, and where it ends
unfoldable pub inner_at : List ℕ → ℕ → ℕ → Option (ℕ × ℕ)
inner_at tape at k =
    let r = bytes_at tape at in
    pick (eqb (get_or r 0 0) k) (Some (get_or r 1 0, at + length r)) None

-- ---- expressions and factors

-- where it ends, and its value
abbrev pub Meaning : Type 0
Meaning = ℕ × Value

-- the tape; which number the name at an offset reaches; and the place
module _ (tape : List ℕ) (numbers : ℕ → Option ℤ) (place : ℤ) where
  -- a record that no expression follows
  unfoldable pub leaf : ℕ → Meaning
  leaf at =
      let r = bytes_at tape at in
      let k = get_or r 0 0 in
      let end = at + length r in
      pick (eqb k number) (end, Number (to_z w64 (number_at 8 r 1)))
      (pick (eqb k current_place) (end, Number place)
      (pick (is_name k) (end, named (get_or r 1 0) at (numbers at))
      (at, Refuses bad_record at)))

  -- a factor, where expressions mean e: flags and the expression that follows, or a leaf
  abbrev pub factor_by : Option (ℕ × ℕ) → (ℕ → Meaning) → ℕ → Meaning
  factor_by (Some (f, next)) e at = ((e next).0, changed at f (e next).1)
  factor_by None e at = leaf at

  -- an expression, where expressions mean e, and as a factor it means f: an operator with left and right, or a factor
  abbrev pub expression_by : Option (ℕ × ℕ) → (ℕ → Meaning) → Meaning → ℕ → Meaning
  expression_by (Some (op, next)) e f at =
      let left = e next in
      let right = e left.0 in
      (right.0, joined at op left.1 right.1)
  expression_by None e f at = f

  -- at most d records deep, from an offset: "depth 9"
  unfoldable pub expression : ℕ → ℕ → Meaning
  expression zero at = (at, Refuses too_deep at)
  expression (suc d) at =
      expression_by (inner_at tape at binary) (expression d) (factor_by (inner_at tape at flags) (expression d) at) at

  unfoldable pub factor : ℕ → ℕ → Meaning
  factor zero at = (at, Refuses too_deep at)
  factor (suc d) at = factor_by (inner_at tape at flags) (expression d) at
