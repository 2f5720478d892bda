-- Two readings that agree at the expression of every statement come to the same tries; and with arguments in their ranges the call is
-- those tries. Assumes nothing.
use Rattle.std.specs.Prelude.{Option}
use mathlib.Core.List.{List, [], ◌∷◌}
use mathlib.Core.Path.{◌≡◌, refl, ap, ◌∙◌}
use Prim.Native.Nat.{ℕ, ◌≤◌}
use lib.IntN.{ℤ}
use lib.ListN.{length}
use borrow.Author.Tests.{le-leb, eq-eqb}
use Rattle.refusals.specs.AnswerAt.{AnswerAt, Fine, Fault, and_then}
use Rattle.pen.specs.Pens.{size}
use Rattle.form.specs.Form.{max_tape}
use Rattle.form.specs.Statements.{Statement}
use Rattle.evaluator.specs.Expression.{Value}
use Rattle.walk.specs.Walk.{here}
use Rattle.walk.proofs.Agrees.{Alike}
use Rattle.compares.specs.declared.Compares.{Compares}
use Rattle.tries.specs.Tries.{Trying, try_at, tried, tries}
use Rattle.tries.specs.Write.{is_allowed, tried_all, write_of}

abbrev Reads : Type 0
Reads = (ℕ → Option ℤ) → ℤ → ℕ → Value

module _ (r s : Reads) (c : Compares) (numbers : ℕ → Option ℤ) where
  tried_alike : (t : Trying) (x : Statement) → r numbers (here t.walk) x.expression ≡ s numbers (here t.walk) x.expression
      → tried r c numbers t x ≡ tried s c numbers t x
  unfolding tried try_at
  tried_alike t x e = rw e

  pub tries_alike : (t : Trying) (xs : List Statement) → Alike r s xs → tries r c numbers t xs ≡ tries s c numbers t xs
  tries_alike t [] h = refl
  tries_alike t (x ∷ xs) h =
      ap (λ (a : AnswerAt Trying). and_then a (λ u. tries r c numbers u xs)) (tried_alike t x (h.0 numbers (here t.walk)))
      ∙ go (λ u. tries_alike u xs h.1) (tried s c numbers t x)
    where
      go : ((u : Trying) → tries r c numbers u xs ≡ tries s c numbers u xs) → (a : AnswerAt Trying)
          → and_then a (λ u. tries r c numbers u xs) ≡ and_then a (λ u. tries s c numbers u xs)
      go rest (Fine u) = rest u
      go rest (Fault n at) = refl

-- ---- the call

-- the same is compared: the same is written
pub write_by : (tape nodes : List ℕ) (numbers : List (Option ℤ)) (initial room : ℕ) {c d : Compares} → c ≡ d
    → write_of tape nodes numbers initial c room ≡ write_of tape nodes numbers initial d room
write_by tape nodes numbers initial room is = ap (λ (c : Compares). write_of tape nodes numbers initial c room) is

module _ (tape nodes : List ℕ) (numbers : List (Option ℤ)) (initial : ℕ) (c : Compares) where
  pub write_allowed : length tape ≤ max_tape → initial ≤ size → {n : ℕ} → n ≡ size
      → write_of tape nodes numbers initial c n ≡ tried_all tape nodes numbers initial c
  unfolding write_of is_allowed
  write_allowed a b e = rw (le-leb (length tape) 65536 a, le-leb initial 65536 b, eq-eqb _ 65536 e)
