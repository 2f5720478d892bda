-- What a function's answer says of the test that it tells, and which side `pick` takes then. Assumes nothing.
use mathlib.Core.Bool.{Bool, true, false}
use mathlib.Core.Path.{◌≡◌, refl, sym, ap, ◌∙◌}
use Prim.Native.Nat.{ℕ}
use Rattle.refusals.specs.Answer.{Answer, Done, Refused, pick}
use Rattle.refusals.proofs.Never.{never}

-- ---- around an `if`, where r tells the test t

-- where r is true, the test holds
pub granted : {r t : Bool} → r ≡ t → r ≡ true → t ≡ true
granted e h = sym e ∙ h

-- where it is false, it does not
pub denied : {r t : Bool} → r ≡ t → r ≡ false → t ≡ false
denied e h = sym e ∙ h

-- ---- the side

module _ {A : Type 0} (a b : A) {t : Bool} where
  pub at_true : t ≡ true → a ≡ pick t a b
  at_true h = simp h refl

  pub at_false : t ≡ false → b ≡ pick t a b
  at_false h = simp h refl

  pub passed : {r : Bool} → r ≡ t → r ≡ true → a ≡ pick t a b
  passed e h = at_true (granted e h)

  pub stopped : {r : Bool} → r ≡ t → r ≡ false → b ≡ pick t a b
  stopped e h = at_false (denied e h)

-- ---- what was done

-- a call that was done passed its test
pub done_passed : {A : Type 0} (t : Bool) (a : Answer A) (n : ℕ) {x : A} → pick t a (Refused n) ≡ Done x → (t ≡ true) × (a ≡ Done x)
done_passed true a n e = (refl, e)
done_passed false a n e = never (cc)

-- or was not refused by it
pub done_missed : {A : Type 0} (b : Bool) (a : Answer A) (n : ℕ) {x : A}
    → pick b (Refused n) a ≡ Done x → (b ≡ false) × (a ≡ Done x)
done_missed true a n e = never (cc)
done_missed false a n e = (refl, e)

abbrev value_or : {A : Type 0} → A → Answer A → A
value_or b (Done a) = a
value_or b (Refused n) = b

-- and its value is one
pub done_value : {A : Type 0} {a b : A} → Done a ≡ Done b → a ≡ b
done_value {a = a} e = ap (value_or a) e
