-- Numbers that stand in an array give the same build and the same list; and what each call answers, put together. Assumes nothing.
use Rattle.std.specs.Prelude.{Option}
use mathlib.Core.List.{List, map}
use mathlib.Core.Path.{◌≡◌, refl, sym, ap, ◌∙◌, subst}
use Prim.Native.Nat.{ℕ, ◌≤◌, ◌<◌}
use native.Mathlib.Omega.{arith}
use lib.IntN.{ℤ, pos}
use lib.ListN.{length, replicate, drop}
use Rattle.refusals.specs.AnswerAt.{AnswerAt, Fine, Fault, mapped, and_then}
use Rattle.pen.specs.Pens.{size}
use Rattle.symbols.specs.Symbols.{number_or0}
use Rattle.form.specs.Form.{max_tape}
use Rattle.form.specs.Statements.{Statement, statements}
use Rattle.evaluator.specs.Expression.{Value}
use Rattle.walk.specs.Walk.{Origin, origin}
use Rattle.walk.specs.Values.{Values, numbered, declarations}
use Rattle.walk.specs.Numbers.{numbers_in, numbers_by, reads_noted}
use Rattle.walk.proofs.Columns.{by_node_lem}
use Rattle.passes.specs.Passes.{settled}
use Rattle.passes.proofs.Settles.{least, passes_length}
use Rattle.tries.specs.Tries.{Trying, start, tries}
use Rattle.tries.specs.Write.{tried_all}
use Rattle.tries.proofs.Agrees.{write_allowed}
use Rattle.number_list.specs.Lists.{number_list}
use Rattle.number_list.specs.Calls.{gathered}
use Rattle.number_list.proofs.Kept.{gather_told, list_numbers}
use Rattle.compares.specs.Compared.{builder}
use Rattle.reads.specs.Reads.{reads_on}
use Rattle.reads.proofs.Names.{few_names}
use Rattle.finish.specs.Finish.{Report, finished, finish_of}
use Rattle.layout.specs.Layout.{layout_of, noted_of}
use Rattle.layout.proofs.Layouts.{laid_by, laid_stops}
use Rattle.builds.specs.Build.{Build, tried_with, built_by, built}
use Rattle.builds.proofs.Names.{built_noted}
use Rattle.builder.specs.Call.{Memory, memory, left}
use Rattle.builder.specs.Steps.{leaving}

abbrev Reads : Type 0
Reads = (ℕ → Option ℤ) → ℤ → ℕ → Value

-- ---- numbers that stand in an array

-- a build after n passes, with this number list
abbrev end_of : ℕ → List ℤ → Trying → Build
end_of n l t = record {
  start = t.page.pen.start;
  end = t.page.pen.end;
  image = t.page.image;
  numbers = l;
  passes = n;
}

-- the build whose passes gave these numbers, taken by node
unfoldable tried_on : (tape nodes : List ℕ) (initial n : ℕ) (numbers : List (Option ℤ)) → AnswerAt Build
tried_on tape nodes initial n numbers =
    mapped (end_of n (number_list (statements tape) (drop 1 (map number_or0 numbers)))) (tried_all tape nodes numbers initial builder)

module _ (r : Reads) (xs : List Statement) (o : Origin) (few : declarations xs < 1024) where
  -- the tries with settled numbers, taken by node
  abbrev arrays : ℕ → Values → AnswerAt Build
  arrays n L =
      let numbers = numbers_by L in
      mapped (end_of n (number_list xs (drop 1 (map number_or0 numbers))))
      (tries r builder (numbers_in numbers) (start o) xs)

  tried_arrays : (n : ℕ) (L : Values) → settled r xs o ≡ Fine (n, L) → arrays n L ≡ tried_with r xs o (n, L)
  tried_arrays n L e =
      let short : length L < 1024 = omega (arith, ap length (least r xs o e).1, passes_length r xs o n) in
      ap (λ (f : ℕ → Option ℤ). mapped (end_of n (number_list xs (drop 1 (map number_or0 (numbers_by L))))) (tries r builder f (start o) xs))
      (by_node_lem L short)
      ∙ ap (λ (l : List ℤ). mapped (end_of n l) (tries r builder (numbered L) (start o) xs))
      (list_numbers xs L)

-- ---- what a build leaves

-- what is left of the image and of the list
abbrev pub Left : AnswerAt Report → (image image' : List ℕ) (list list' : List ℤ) → AnswerAt Build → Type 0
Left b image image' list list' a = ◌≡◌ {A = AnswerAt Report × List ℕ × List ℤ} (b, image', list') (leaving image list a)

module _ (image : List ℕ) (list : List ℤ) where
  pub left_refused : {m at : ℕ} {b : AnswerAt Report} (a : AnswerAt Build) → a ≡ Fault m at → b ≡ Fault m at
      → Left b image image list list a
  left_refused a e h = rw (e, h) refl

-- the tries of a tape whose arguments are in their ranges, with an image and a list that is zero
module _ (tape nodes : List ℕ) (initial : ℕ) (asked : (length tape ≤ max_tape) × (initial ≤ size) × (declarations (statements tape) < 1024))
    (image : List ℕ) (whole : length image ≡ size) (list : List ℤ) (zero : list ≡ replicate 1024 (pos 0)) (n : ℕ) (numbers : List (Option ℤ)) where
  abbrev numbers_list : List ℤ
  numbers_list = gathered tape numbers

  left_finished : {b : AnswerAt Report} {image' : List ℕ} {list' : List ℤ}
      → (b, image', list') ≡ finish_of tape nodes numbers n initial image list
      → Left b image image' list list' (tried_on tape nodes initial n numbers)
  unfolding finish_of tried_on
  left_finished {b} {image'} {list'} e =
      let all = write_allowed tape nodes numbers initial builder asked.0 asked.1 whole in
      go (tried_all tape nodes numbers initial builder) (e ∙ ap (finished n numbers_list image list) all)
    where
      go : (w : AnswerAt Trying) → (b, image', list') ≡ finished n numbers_list image list w
          → Left b image image' list list' (mapped (end_of n (number_list (statements tape) (drop 1 (map number_or0 numbers)))) w)
      go (Fine t) e =
          let told = gather_told tape numbers {list = list} (refl, refl) zero asked.2 in
          let answer = ap (λ x. x.0) e ∙ ap (λ (k : ℕ). Fine (t.page.pen.start, t.page.pen.end, k, n)) told.0 in
          let listed = ap (λ x. x.2) e ∙ told.1 in
          λ i. (answer i, (e i).1, listed i)
      go (Fault k at) e = e

-- ---- behind a layout

module _ (tape nodes : List ℕ) (initial : ℕ) (low : initial ≤ size) (long : length nodes ≡ max_tape) where
  -- behind a layout that settled, the build is the tries with its numbers
  laid_tried : {n : ℕ} {numbers : List (Option ℤ)} {L : Values} → layout_of tape initial (length nodes) ≡ Fine (n, L) → numbers ≡ numbers_by L
      → {nodes' : List ℕ} → nodes' ≡ noted_of tape initial nodes → tried_on tape nodes' initial n numbers ≡ built tape (origin initial)
  unfolding tried_on tried_all built_by
  laid_tried {n} {L = L} laid is {nodes'} noted =
      let (t, fine, notes, e) = laid_by tape initial low nodes laid noted in
      let r = reads_noted tape nodes' in
      let xs = statements tape in
      let o = origin initial in
      ap (tried_on tape nodes' initial n) is
      ∙ tried_arrays r xs o (few_names tape fine) n L e
      ∙ sym (ap (λ (a : AnswerAt (ℕ × Values)). and_then a (tried_with r xs o)) e)
      ∙ built_noted tape o fine nodes long notes

  -- and the end of the build is what is left
  pub left_laid : length tape ≤ max_tape → {n : ℕ} {numbers : List (Option ℤ)}
      → (L : Values) × (layout_of tape initial (length nodes) ≡ Fine (n, L)) × (numbers ≡ numbers_by L)
      → {nodes' : List ℕ} → nodes' ≡ noted_of tape initial nodes
      → (image : List ℕ) → length image ≡ size → (list : List ℤ) → list ≡ replicate 1024 (pos 0)
      → {b : AnswerAt Report} {image' : List ℕ} {list' : List ℤ} → (b, image', list') ≡ finish_of tape nodes' numbers n initial image list
      → Left b image image' list list' (built tape (origin initial))
  left_laid fits {n} {numbers} (L, laid, is) {nodes'} noted image whole list zero {b} {image'} {list'} e =
      let few = few_names tape (laid_by tape initial low nodes laid noted).1 in
      subst (Left b image image' list list') (laid_tried laid is noted)
      (left_finished tape nodes' initial (fits, low, few) image whole list zero n numbers e)

  -- behind one that is refused, the build is refused
  pub laid_refused : {m at : ℕ} → layout_of tape initial (length nodes) ≡ Fault m at → built tape (origin initial) ≡ Fault m at
  unfolding built built_by
  laid_refused e = laid_stops tape initial low nodes (λ t. tried_with (reads_on tape t) (statements tape) (origin initial)) long e

-- ---- the call

module _ (m : Memory) (list : List ℤ) (zero : list ≡ replicate 1024 (pos 0)) where
  -- all that is left, where the list was zero before the build and the work memory is zero after it
  pub left_all : {b : AnswerAt Report} {image' : List ℕ} {list' : List ℤ} {work' : List ℕ} (a : AnswerAt Build)
      → Left b m.image image' list list' a → work' ≡ replicate 65536 0 → (b, memory image' list' work') ≡ left m a
  left_all (Fine x) h w = λ i. ((h i).0, memory (h i).1 (h i).2 (w i))
  left_all (Fault n at) h w = λ i. ((h i).0, memory (h i).1 ((ap (λ x. x.2) h ∙ zero) i) (w i))
