-- The public calls allow one answer: the law, applied to each one's own contract; and what an answer says tells all its cases apart, for
-- every call of every crate. Assumes nothing.
use mathlib.Core.Path.{◌≡◌, refl, ap}
use Prim.Native.Nat.{ℕ}
use Rattle.std.specs.Prelude.{◌-◌, List, [], ◌∷◌, get_or, Result, Ok, Err}
use Rattle.refusals.specs.Answer.{Answer, Done, Refused}
use Rattle.refusals.specs.AnswerAt.{AnswerAt, Fine, Fault}
use Rattle.refusals.specs.Says.{number_of, says, says_at}
use Rattle.refusals.specs.declared.Refusal.{Refusal}
use Rattle.refusals.specs.declared.Refusal.TheVariants as why
use Rattle.refusals.specs.declared.Fault as F
use Rattle.refusals.proofs.Unique.{OneResult, same}
use Rattle.refusals.proofs.all.Reads as all
use Rattle.refusals.proofs.Refusal.number.Reads as number
use Rattle.refusals.proofs.Refusal.at.Reads as at

-- the refusals in the table's order, and which has a number
abbrev refusals : List Refusal
refusals =
    why.Argument ∷ why.NoRoom ∷ why.NameTaken ∷ why.Loop ∷ why.BadRecord ∷ why.NoRow ∷ why.CutShort ∷ why.Unpaired ∷ why.TooDeep ∷
    why.Arithmetic ∷ why.Unresolved ∷ why.TooSmall ∷ why.Moved ∷ why.TooFar ∷ why.Outside ∷ why.NotSettled ∷ why.NumberDiffers ∷
    why.BytesDiffer ∷ []

abbrev pub refusal_of : ℕ → Refusal
refusal_of n = get_or refusals (n - 1) why.Argument

pub back_number : (e : Refusal) → refusal_of (number_of e) ≡ e
back_number why.Argument = refl
back_number why.NoRoom = refl
back_number why.NameTaken = refl
back_number why.Loop = refl
back_number why.BadRecord = refl
back_number why.NoRow = refl
back_number why.CutShort = refl
back_number why.Unpaired = refl
back_number why.TooDeep = refl
back_number why.Arithmetic = refl
back_number why.Unresolved = refl
back_number why.TooSmall = refl
back_number why.Moved = refl
back_number why.TooFar = refl
back_number why.Outside = refl
back_number why.NotSettled = refl
back_number why.NumberDiffers = refl
back_number why.BytesDiffer = refl

module _ {A : Type 0} where
  abbrev pub back : Answer A → Result A Refusal
  back (Done a) = Ok a
  back (Refused n) = Err (refusal_of n)

  pub back_says : (x : Result A Refusal) → back (says x) ≡ x
  back_says (Ok a) = refl
  back_says (Err e) = ap Err (back_number e)

  abbrev pub back_at : AnswerAt A → Result A F.Fault
  back_at (Fine a) = Ok a
  back_at (Fault n i) = Err (record { why = refusal_of n; at = i })

  pub back_says_at : (x : Result A F.Fault) → back_at (says_at x) ≡ x
  back_says_at (Ok a) = refl
  back_says_at (Err f) = ap (λ (e : Refusal). Err (record { why = e; at = f.at })) (back_number f.why)

pub all_one : OneResult all.Post
all_one k a x y e f p q = same p q

pub number_one : OneResult number.Post
number_one k a x y e f p q = same p q

pub at_one : OneResult at.Post
at_one k a x y e f p q = same p q
