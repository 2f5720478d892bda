-- What drawing keeps, the tries keep. Assumes nothing.
use Rattle.std.specs.Prelude.{Option}
use mathlib.Core.List.{List, [], ◌∷◌}
use mathlib.Core.Path.{◌≡◌, subst}
use Prim.Native.Nat.{ℕ}
use lib.IntN.{ℤ}
use Rattle.refusals.specs.Answer.{Done}
use Rattle.refusals.specs.AnswerAt.{Fine}
use Rattle.refusals.proofs.Answers.{fine_value, fine_then}
use Rattle.form.specs.Statements.{Statement}
use Rattle.evaluator.specs.Expression.{Value}
use Rattle.compares.specs.declared.Compares.{Compares}
use Rattle.tries.specs.Tries.{Page, drawn, Trying, tried, tries}
use Rattle.tries.proofs.Passed.{tried_has}

-- a property of pages that is kept wherever bytes are drawn
abbrev pub Kept : (Page → Type 0) → Type 0
Kept P = (p q : Page) (place : ℕ) (bs : List ℕ) → P p → drawn p place bs ≡ Done q → P q

module _ (P : Page → Type 0) (keeps : Kept P) (reads : (ℕ → Option ℤ) → ℤ → ℕ → Value) (c : Compares) (numbers : ℕ → Option ℤ) where
  kept_tried : (t : Trying) (x : Statement) {u : Trying} → P t.page → tried reads c numbers t x ≡ Fine u → P u.page
  kept_tried t x h e =
      let p = tried_has reads c numbers t x e in
      subst (λ (v : Trying). P v.page) p.is (keeps t.page p.page t.walk.place p.bytes h p.draws)

  pub kept_tries : (t : Trying) (xs : List Statement) {u : Trying} → P t.page → tries reads c numbers t xs ≡ Fine u → P u.page
  kept_tries t [] h e = subst (λ (v : Trying). P v.page) (fine_value e) h
  kept_tries t (x ∷ xs) {u} h e =
      let (v, is, more) = fine_then (tried reads c numbers t x) (λ v. tries reads c numbers v xs) u e in
      kept_tries v xs (kept_tried t x h is) more
