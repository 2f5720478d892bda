-- What the tries wrote lies in the image. Assumes nothing.
use Rattle.std.specs.Prelude.{Option}
use mathlib.Core.Bool.{◌&&◌, and-eq-true_iff}
use mathlib.Core.List.{List}
use mathlib.Core.Path.{◌≡◌, refl, ap}
use Prim.Native.Nat.{ℕ, ◌≤◌}
use native.Mathlib.Omega.{arith}
use lib.Dec.{eqb, leb}
use lib.IntN.{ℤ}
use lib.ListN.{length}
use borrow.Author.Tests.{leb-true}
use Rattle.refusals.specs.AnswerAt.{AnswerAt, Fine, Fault, mapped}
use Rattle.refusals.specs.Table.{argument}
use Rattle.refusals.proofs.Never.{never}
use Rattle.refusals.proofs.Answers.{fine_passed, fine_value}
use Rattle.pen.specs.Pens.{size}
use Rattle.form.specs.Form.{max_tape}
use Rattle.form.specs.Statements.{statements}
use Rattle.walk.specs.Walk.{origin}
use Rattle.walk.specs.Numbers.{numbers_in, reads_noted}
use Rattle.tries.specs.Tries.{Trying}
use Rattle.tries.specs.Write.{is_allowed, tried_all, write_of, range_of, image_or}
use Rattle.tries.proofs.Sound.{Inside, tries_sound}
use Rattle.compares.specs.declared.Compares.{Compares}

module _ (tape nodes : List ℕ) (numbers : List (Option ℤ)) (initial : ℕ) (c : Compares) (places : ℕ) where
  abbrev all : AnswerAt Trying
  all = write_of tape nodes numbers initial c places

  -- tries that were fine had an initial place in its range, and these are the tries of all statements
  tried_inside : {t : Trying} → all ≡ Fine t → Inside t.page
  unfolding write_of is_allowed tried_all
  tried_inside e =
      let passed = fine_passed (is_allowed tape initial places) (tried_all tape nodes numbers initial c) argument 0 e in
      let a = (and-eq-true_iff (leb (length tape) max_tape && leb initial size) (eqb places size)).0 passed.0 in
      let b = (and-eq-true_iff (leb (length tape) max_tape) (leb initial size)).0 a.0 in
      tries_sound (reads_noted tape nodes) c (numbers_in numbers) (origin initial) (statements tape)
      (leb-true initial size b.1) passed.1

  -- the range that is answered, and the image that is left
  pub range_inside : (image : List ℕ) {image' : List ℕ} {first end : ℕ} → Fine (first, end) ≡ mapped range_of all → image' ≡ image_or image all
      → (first ≤ end) × (end ≤ length image')
  range_inside image {image'} {first} {end} = go all refl
    where
      go : (a : AnswerAt Trying) → all ≡ a → Fine (first, end) ≡ mapped range_of a → image' ≡ image_or image a
          → (first ≤ end) × (end ≤ length image')
      go (Fine t) fine e i =
          let inside = tried_inside fine in
          let range : ◌≡◌ {A = ℕ × ℕ} (first, end) (range_of t) = fine_value e in
          let first-is : first ≡ t.page.pen.start = ap (λ (r : ℕ × ℕ). r.0) range in
          let end_is : end ≡ t.page.pen.end = ap (λ (r : ℕ × ℕ). r.1) range in
          (omega (arith, inside.forward, first-is, end_is), omega (arith, inside.end, inside.image, ap length i, end_is))
      go (Fault n j) fine e i = never (cc)
