-- What an answer that came through says of the calls that it came from. Assumes nothing.
use mathlib.Core.Bool.{Bool, true, false}
use mathlib.Core.Path.{◌≡◌, refl, ap}
use Prim.Native.Nat.{ℕ}
use Rattle.refusals.specs.Answer as Plain
use Rattle.refusals.specs.Answer.{Answer, Done, Refused, pick}
use Rattle.refusals.specs.AnswerAt.{AnswerAt, Fine, Fault, and_then}
use Rattle.refusals.proofs.Never.{never}

-- it passed its test
pub fine_passed : {A : Type 0} (t : Bool) (a : AnswerAt A) (n at : ℕ) {x : A} → pick t a (Fault n at) ≡ Fine x → (t ≡ true) × (a ≡ Fine x)
fine_passed true a n at e = (refl, e)
fine_passed false a n at e = never (cc)

abbrev fine_or : {A : Type 0} → A → AnswerAt A → A
fine_or b (Fine a) = a
fine_or b (Fault n at) = b

-- its value is one
pub fine_value : {A : Type 0} {a b : A} → Fine a ≡ Fine b → a ≡ b
fine_value {a = a} e = ap (fine_or a) e

-- and so is a fault, whatever else might have been given
pub fault_is : {A B : Type 0} {m at n i : ℕ} → ◌≡◌ {A = AnswerAt A} (Fault m at) (Fault n i) → ◌≡◌ {A = AnswerAt B} (Fault m at) (Fault n i)
fault_is {m = m} {at} {n} {i} e =
    let number : m ≡ n = cc in
    let place : at ≡ i = cc in
    λ j. Fault (number j) (place j)

module _ {A B : Type 0} where
  -- both of two calls were fine
  pub fine_then : (a : AnswerAt A) (f : A → AnswerAt B) (v : B) → and_then a f ≡ Fine v → (u : A) × (a ≡ Fine u) × (f u ≡ Fine v)
  fine_then (Fine u) f v e = (u, refl, e)
  fine_then (Fault n at) f v e = never (cc)

  pub done_then : (a : Answer A) (f : A → Answer B) (v : B) → Plain.and_then a f ≡ Done v → (u : A) × (a ≡ Done u) × (f u ≡ Done v)
  done_then (Done u) f v e = (u, refl, e)
  done_then (Refused n) f v e = never (cc)

  -- and so was one whose value is handed over in another form
  pub done_mapped : (f : A → B) (a : Answer A) (v : B) → Plain.mapped f a ≡ Done v → (u : A) × (a ≡ Done u) × (f u ≡ v)
  done_mapped f (Done u) v e = (u, refl, cc)
  done_mapped f (Refused n) v e = never (cc)
