-- A listing by what is noted is the listing by what query finds; and numbers that stand in an array give the same listing. Assumes nothing.
use Rattle.std.specs.Prelude.{Option}
use mathlib.Core.List.{List, [], ◌∷◌, ◌++◌}
use mathlib.Core.Path.{◌≡◌, refl, sym, ap, ◌∙◌}
use Prim.Native.Nat.{ℕ, suc, ◌≤◌, ◌<◌}
use native.Mathlib.Omega.{arith}
use lib.IntN.{ℤ}
use lib.ListN.{length}
use Rattle.refusals.specs.Answer.{pick}
use Rattle.refusals.specs.AnswerAt.{AnswerAt, Fine, Fault, part, mapped, and_then}
use Rattle.lines.specs.Text.{last_line}
use Rattle.pen.specs.Pens.{size}
use Rattle.symbols.specs.declared.SymbolTable.{SymbolTable}
use Rattle.form.specs.Form.{max_tape}
use Rattle.form.specs.Statements.{Statement, is_followed, statements}
use Rattle.evaluator.specs.Expression.{Value, Unresolved}
use Rattle.names.specs.Names.{names_of, declare_of, notes_after}
use Rattle.names.proofs.Kept.{notes_are}
use Rattle.walk.specs.declared.Walk.{Walk}
use Rattle.walk.specs.Walk.{Origin, origin, begin, here, step}
use Rattle.walk.specs.Values.{Values, numbered, number_of, declarations, value_at, step_at}
use Rattle.walk.specs.Numbers.{numbers_in, numbers_by, reads_noted}
use Rattle.walk.proofs.Agrees.{Alike}
use Rattle.walk.proofs.Columns.{by_node_lem}
use Rattle.passes.specs.Passes.{settled}
use Rattle.passes.proofs.Agrees.{settled_alike}
use Rattle.passes.proofs.Settles.{least, passes_length}
use Rattle.compares.specs.Compared.{plain, builder}
use Rattle.tries.specs.Try.{try_of}
use Rattle.tries.specs.Tries.{Trying, start, try_at, tries}
use Rattle.tries.specs.Write.{tried_all}
use Rattle.tries.proofs.Agrees.{tries_alike, write_allowed}
use Rattle.reads.specs.Reads.{reads_on}
use Rattle.reads.proofs.Names.{declare_is, few_names}
use Rattle.reads.proofs.Reading.{all_alike}
use Rattle.layout.specs.Layout.{layout_of, noted_of}
use Rattle.layout.proofs.Layouts.{laid_by, laid_stops}
use Rattle.builds.specs.Build.{finished}
use Rattle.record_lines.specs.Records.{line_of, lines, recorded}
use Rattle.listing.specs.Listing.{listed_with, listed_by, listed}

abbrev Reads : Type 0
Reads = (ℕ → Option ℤ) → ℤ → ℕ → Value

-- ---- two readings that agree at every statement

module _ (r s : Reads) where
  lines_alike : (numbers : ℕ → Option ℤ) (w : Walk) (xs : List Statement) → Alike r s xs → lines r numbers w xs ≡ lines s numbers w xs
  unfolding try_at
  lines_alike numbers w [] h = refl
  lines_alike numbers w (x ∷ xs) h =
      let value : value_at r numbers w x ≡ value_at s numbers w x =
      ap (λ (v : Value). pick (is_followed x.says) v (Unresolved x.expression)) (h.0 numbers (here w)) in
      (λ i. line_of w.place x.says (part (try_of plain (numbers (suc w.names)) (here w) x.at x.says (value i)))
      ++ lines r numbers (step w x.says (number_of (value i))) xs)
      ∙ ap (λ (l : List ℕ). line_of w.place x.says (part (try_at s plain numbers w x)) ++ l)
      (lines_alike numbers (step_at s numbers w x) xs h.1)

  listed_alike : (xs : List Statement) (o : Origin) → Alike r s xs → listed_by r xs o ≡ listed_by s xs o
  unfolding listed_by
  listed_alike xs o h =
      ap (λ (a : AnswerAt (ℕ × Values)). and_then a (listed_with r xs o)) (settled_alike r s xs o h) ∙ go (settled s xs o)
    where
      go : (a : AnswerAt (ℕ × Values)) → and_then a (listed_with r xs o) ≡ and_then a (listed_with s xs o)
      go (Fine (n, L)) = λ i.
          mapped (λ b. lines_alike (numbered L) (begin o) xs h i ++ last_line b.start b.end b.passes)
          (mapped (finished s xs o n L) (tries_alike r s builder (numbered L) (start o) xs h i))
      go (Fault n at) = refl

-- ---- numbers that stand in an array

module _ (r : Reads) (xs : List Statement) (o : Origin) where
  -- the listing after n passes, with numbers that stand in an array, by node
  listed_in : ℕ → List (Option ℤ) → AnswerAt (List ℕ)
  listed_in n numbers =
      mapped
      (λ t. lines r (numbers_in numbers) (begin o) xs ++ last_line t.page.pen.start t.page.pen.end n)
      (tries r builder (numbers_in numbers) (start o) xs)

  listed_arrays : declarations xs < 1024 → (n : ℕ) (L : Values) → settled r xs o ≡ Fine (n, L)
      → listed_in n (numbers_by L) ≡ listed_with r xs o (n, L)
  unfolding listed_in numbers_by
  listed_arrays few n L e =
      let short : length L < 1024 = omega (arith, ap length (least r xs o e).1, passes_length r xs o n) in
      ap (λ (f : ℕ → Option ℤ). mapped (λ t. lines r f (begin o) xs ++ last_line t.page.pen.start t.page.pen.end n)
      (tries r builder f (start o) xs)) (by_node_lem L short)
      ∙ go (tries r builder (numbered L) (start o) xs)
    where
      go : (a : AnswerAt Trying)
          → mapped (λ t. lines r (numbered L) (begin o) xs ++ last_line t.page.pen.start t.page.pen.end n) a
          ≡ mapped (λ b. lines r (numbered L) (begin o) xs ++ last_line b.start b.end b.passes) (mapped (finished r xs o n L) a)
      go (Fine t) = refl
      go (Fault m at) = refl

  listed_settled : declarations xs < 1024 → {n : ℕ} {numbers : List (Option ℤ)}
      → (L : Values) × (settled r xs o ≡ Fine (n, L)) × (numbers ≡ numbers_by L) → listed_in n numbers ≡ listed_by r xs o
  unfolding listed_by
  listed_settled few {n} (L, e, is) =
      ap (listed_in n) is
      ∙ listed_arrays few n L e
      ∙ sym (ap (λ (a : AnswerAt (ℕ × Values)). and_then a (listed_with r xs o)) e)

-- the listing behind the passes is that with their numbers
module _ (tape nodes : List ℕ) (initial : ℕ) (fits : length tape ≤ max_tape) (low : initial ≤ size) where
  listed_after : declarations (statements tape) < 1024 → {n : ℕ} {numbers : List (Option ℤ)}
      → (L : Values) × (settled (reads_noted tape nodes) (statements tape) (origin initial) ≡ Fine (n, L)) × (numbers ≡ numbers_by L)
      → recorded tape nodes numbers n initial ≡ listed_by (reads_noted tape nodes) (statements tape) (origin initial)
  unfolding recorded tried_all listed_in
  listed_after few {n} {numbers} found =
      ap (mapped _) (write_allowed tape nodes numbers initial builder fits low refl)
      ∙ listed_settled (reads_noted tape nodes) (statements tape) (origin initial) few found

-- ---- behind the names

module _ (tape : List ℕ) (o : Origin) where
  -- by what is noted at the name records
  listed_noted : {t : SymbolTable} → names_of tape ≡ Fine t → (nodes : List ℕ) → length nodes ≡ max_tape → {nodes' : List ℕ}
      → nodes' ≡ notes_after tape nodes (declare_of tape (length nodes))
      → listed_by (reads_noted tape nodes') (statements tape) o ≡ listed tape o
  unfolding listed
  listed_noted {t} fine nodes long is =
      let resolved = notes_are tape (length nodes) (declare_is tape long ∙ fine) nodes long in
      ap (λ (l : List ℕ). listed_by (reads_noted tape l) (statements tape) o) is
      ∙ listed_alike _ (reads_on tape t) (statements tape) o (all_alike tape fine _ resolved)
      ∙ sym (ap (λ (a : AnswerAt SymbolTable). and_then a (λ t. listed_by (reads_on tape t) (statements tape) o)) fine)

-- ---- behind the layout

module _ (tape nodes : List ℕ) (initial : ℕ) (low : initial ≤ size) (long : length nodes ≡ max_tape) where
  -- one that settled: its numbers give the lines
  pub laid_listed : length tape ≤ max_tape → {n : ℕ} {numbers : List (Option ℤ)}
      → (L : Values) × (layout_of tape initial (length nodes) ≡ Fine (n, L)) × (numbers ≡ numbers_by L)
      → {nodes' : List ℕ} → nodes' ≡ noted_of tape initial nodes → recorded tape nodes' numbers n initial ≡ listed tape (origin initial)
  laid_listed fits (L, laid, is) {nodes'} noted =
      let (t, fine, notes, e) = laid_by tape initial low nodes laid noted in
      listed_after tape nodes' initial fits low (few_names tape fine) (L, e, is)
      ∙ listed_noted tape (origin initial) fine nodes long notes

  -- one that is refused
  pub laid_refused : {m at : ℕ} → layout_of tape initial (length nodes) ≡ Fault m at → Fault m at ≡ listed tape (origin initial)
  unfolding listed listed_by
  laid_refused e =
      sym (laid_stops tape initial low nodes (λ t. listed_with (reads_on tape t) (statements tape) (origin initial)) long e)
