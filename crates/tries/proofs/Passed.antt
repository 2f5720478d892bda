-- A statement that passed: its bytes, and the page with them. Assumes nothing.
use Rattle.std.specs.Prelude.{Option}
use mathlib.Core.List.{List}
use mathlib.Core.Path.{◌≡◌, refl}
use Prim.Native.Nat.{ℕ}
use lib.IntN.{ℤ}
use Rattle.refusals.specs.Answer.{Answer, Done, Refused}
use Rattle.refusals.specs.AnswerAt.{Fine, mapped}
use Rattle.refusals.proofs.Never.{never}
use Rattle.refusals.proofs.Answers.{fine_then}
use Rattle.form.specs.Statements.{Statement, placed}
use Rattle.evaluator.specs.Expression.{Value}
use Rattle.walk.specs.Values.{step_at}
use Rattle.compares.specs.declared.Compares.{Compares}
use Rattle.tries.specs.Tries.{Page, drawn, Trying, trying, try_at, tried}

-- an answer at an offset, whose value is handed over in another form
fine_placed : {A B : Type 0} (f : A → B) (at : ℕ) (a : Answer A) (v : B) → mapped f (placed at a) ≡ Fine v
    → (u : A) × (a ≡ Done u) × (f u ≡ v)
fine_placed f at (Done u) v e = (u, refl, cc)
fine_placed f at (Refused n) v e = never (cc)

module _ (reads : (ℕ → Option ℤ) → ℤ → ℕ → Value) (c : Compares) (numbers : ℕ → Option ℤ) (t : Trying) (x : Statement) where
  -- u: what is behind it
  pub record Passed (u : Trying) : Type 0 where
    pub bytes : List ℕ
    pub page : Page
    pub fine : try_at reads c numbers t.walk x ≡ Fine bytes
    pub draws : drawn t.page t.walk.place bytes ≡ Done page
    pub is : trying (step_at reads numbers t.walk x) page ≡ u

  pub tried_has : {u : Trying} → tried reads c numbers t x ≡ Fine u → Passed u
  unfolding tried
  tried_has {u} e =
      let (bs, fine, more) = fine_then (try_at reads c numbers t.walk x) _ u e in
      let (p, draws, is) = fine_placed (λ q. trying (step_at reads numbers t.walk x) q) x.at (drawn t.page t.walk.place bs) u more in
      record { bytes = bs; page = p; fine = fine; draws = draws; is = is }

  -- a statement passes where its try is fine and its bytes are drawn
  pub tried_is : (bs : List ℕ) (p : Page) → try_at reads c numbers t.walk x ≡ Fine bs → drawn t.page t.walk.place bs ≡ Done p
      → tried reads c numbers t x ≡ Fine (trying (step_at reads numbers t.walk x) p)
  unfolding tried
  tried_is bs p e d = rw (e, d)
