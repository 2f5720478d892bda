-- Two readings that agree at the expression of every statement come to the same passes. Assumes nothing.
use Rattle.std.specs.Prelude.{Option, None, Some}
use mathlib.Core.Bool.{Bool}
use mathlib.Core.List.{List, [], ◌∷◌, ◌++◌}
use mathlib.Core.Path.{◌≡◌, refl, ap, ◌∙◌}
use Prim.Native.Nat.{ℕ, zero, suc, ◌-◌}
use lib.IntN.{ℤ}
use Rattle.refusals.specs.Answer.{pick}
use Rattle.refusals.specs.AnswerAt.{Fine}
use Rattle.form.specs.Statements.{Statement, is_followed}
use Rattle.evaluator.specs.Expression.{Value, Unresolved}
use Rattle.walk.specs.declared.Walk.{Walk}
use Rattle.walk.specs.Walk.{Origin, begin, here, step}
use Rattle.walk.specs.Values.{Values, numbered, number_of, read_at, step_at, eq_value, same}
use Rattle.walk.proofs.Agrees.{Alike}
use Rattle.passes.specs.Passes.{gives, pass, least_from, limit, passes, repeats, settled_by, settled}

module _ (r s : (ℕ → Option ℤ) → ℤ → ℕ → Value) where
  pub pass_alike : (xs : List Statement) → Alike r s xs → (numbers : ℕ → Option ℤ) (w : Walk) → pass r numbers w xs ≡ pass s numbers w xs
  unfolding pass
  pass_alike [] h numbers w = refl
  pass_alike (x ∷ xs) h numbers w =
      let read : read_at r numbers w x ≡ read_at s numbers w x =
      ap (λ (v : Value). number_of (pick (is_followed x.says) v (Unresolved x.expression))) (h.0 numbers (here w)) in
      ap (λ (v : Option ℤ). gives w x.says v ++ pass r numbers (step w x.says v) xs) read
      ∙ ap (λ (L : Values). gives w x.says (read_at s numbers w x) ++ L) (pass_alike xs h.1 numbers (step_at s numbers w x))

  module _ (xs : List Statement) (o : Origin) (h : Alike r s xs) where
    pub passes_alike : (n : ℕ) → passes r xs o n ≡ passes s xs o n
    unfolding passes
    passes_alike zero = refl
    passes_alike (suc n) =
        ap (λ (L : Values). pass r (numbered L) (begin o) xs) (passes_alike n) ∙ pass_alike xs h (numbered (passes s xs o n)) (begin o)

    repeats_alike : repeats r xs o ≡ repeats s xs o
    unfolding repeats
    repeats_alike i n = same eq_value (passes_alike n i) (passes_alike (n - 1) i)

    settled_by_lem : (a : Option ℕ) → settled_by r xs o a ≡ settled_by s xs o a
    settled_by_lem None = refl
    settled_by_lem (Some n) = ap (λ (L : Values). Fine (n, L)) (passes_alike n)

    pub settled_alike : settled r xs o ≡ settled s xs o
    unfolding settled
    settled_alike =
        settled_by_lem (least_from (repeats r xs o) limit 1) ∙ ap (λ (t : ℕ → Bool). settled_by s xs o (least_from t limit 1)) repeats_alike
