-- The walk behind a record. Assumes nothing.
use Rattle.std.specs.Prelude.{Option}
use mathlib.Core.Bool.{Bool, false}
use mathlib.Core.List.{List}
use mathlib.Core.Path.{◌≡◌, ◌∙◌}
use Prim.Native.Nat.{ℕ, ◌+◌}
use lib.IntN.{ℤ}
use lib.ListN.{get_or}
use Rattle.refusals.specs.Answer.{pick}
use Rattle.form.specs.Form.{declares}
use Rattle.form.specs.Statements.{what_of, is_inner}
use Rattle.walk.specs.declared.Walk.{Walk}
use Rattle.walk.specs.Walk.{walk, place_after, step}
use Rattle.walk.proofs.Records.{names_said}
use Rattle.passes.specs.Steps.{step_over}

module _ (w : Walk) (r : List ℕ) (v : Option ℤ) {i : Bool} (i-is : i ≡ is_inner r) where
  pub step_one : i ≡ false → {k p n : ℕ} → k ≡ get_or r 0 0 → p ≡ place_after (what_of r) v w.place
      → n ≡ pick (declares k) (w.names + 1) w.names → walk p n ≡ step_over w r v
  unfolding step_over step
  step_one e {k} is hp hn = rw (← i-is, e, hp, hn ∙ names_said r k is w.names)
