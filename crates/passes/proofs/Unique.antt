-- Each public call allows one answer: the law of `refusals`, applied to each call's own contract. Assumes nothing.
use Rattle.std.specs.Prelude.{ℕ, List, ℤ, Option, Result, Ok, Err}
use mathlib.Core.Path.{◌≡◌, refl, ap}
use Rattle.refusals.specs.AnswerAt.{AnswerAt}
use Rattle.refusals.specs.declared.Fault as F
use Rattle.refusals.proofs.One.{back_at, back_says_at}
use Rattle.refusals.proofs.Unique.{OneResult, told_apart}
use Rattle.passes.specs.Settle.{says_settled}
use Rattle.passes.specs.declared.Settled.{Settled}
use Rattle.passes.proofs.settle.Reads as settle
use Rattle.passes.proofs.pass_once.Reads as pass-once

-- ---- of each answer, the case that says this

abbrev settled : Result (ℕ × List (Option ℤ)) F.Fault → Result Settled F.Fault
settled (Ok s) = Ok (record { passes = s.0; numbers = s.1 })
settled (Err f) = Err f

abbrev pub back_settled : AnswerAt (ℕ × List (Option ℤ)) → Result Settled F.Fault
back_settled a = settled (back_at a)

pub back_settled_lem : (x : Result Settled F.Fault) → back_settled (says_settled x) ≡ x
back_settled_lem (Ok s) = refl
back_settled_lem (Err f) = ap settled (back_says_at (Err f))

-- ---- the calls

pub settle_one : OneResult settle.Post
settle_one k a x y e f p q = told_apart says_settled back_settled back_settled_lem p q

pub pass_once_one : OneResult pass-once.Post
pass_once_one k a x y e f p q = told_apart says_settled back_settled back_settled_lem p q
