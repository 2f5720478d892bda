-- A check is refused with 1 at 0 for an argument, and else with one of the numbers listed for it. Assumes nothing.
use mathlib.Core.Bool.{Bool, true, false}
use mathlib.Core.Logic.{◌⊎◌, inl, inr}
use mathlib.Core.Path.{◌≡◌, refl, sym}
use lib.ListN.{length}
use Rattle.refusals.specs.Answer.{pick}
use Rattle.refusals.specs.AnswerAt.{Fault}
use Rattle.refusals.specs.Table.{argument}
use Rattle.edges.specs.Edges.{has}
use Rattle.walk.specs.Walk.{origin}
use Rattle.checker.specs.Check.{checked}
use Rattle.checker.specs.Refusals.{refusals}
use Rattle.checker.specs.Call.{is_allowed, check_of}
use Rattle.checker.proofs.Checks.{allowed}
use Rattle.checker.proofs.Refusals.{checked_with}
use Rattle.demand.specs.Theorems.{Refused}

pub told : Refused
unfolding check_of
told tape initial numbers start bytes n at e = go (is_allowed (length tape) initial start (length bytes)) refl e
  where
    go : (t : Bool) → is_allowed (length tape) initial start (length bytes) ≡ t
        → pick t (checked tape (origin initial) numbers start bytes) (Fault argument 0) ≡ Fault n at
        → ((t ≡ false) × (n ≡ argument) × (at ≡ 0)) ⊎ ((t ≡ true) × (has n refusals ≡ true))
    go true in_range_lem e =
        let a = allowed _ _ _ _ in_range_lem in
        inr (refl, checked_with tape initial numbers start bytes a.tape a.initial e)
    go false in_range_lem e = inl (refl, sym cc, sym cc)
