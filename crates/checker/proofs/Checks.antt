-- Numbers that stand in an array give the same check, and so do the notes of a tape's names. Assumes nothing.
use Rattle.std.specs.Prelude.{Option}
use mathlib.Core.Bool.{true, ◌&&◌, and-eq-true_iff}
use mathlib.Core.List.{List}
use mathlib.Core.Path.{◌≡◌, refl, sym, ap, ◌∙◌}
use Prim.Native.Nat.{ℕ, ◌≤◌, ◌<◌}
use native.Mathlib.Omega.{arith}
use lib.Dec.{eqb, leb}
use lib.IntN.{ℤ}
use lib.ListN.{length, replicate, length-replicate}
use borrow.Author.Tests.{eq-eqb, leb-true}
use Rattle.refusals.specs.Answer.{pick}
use Rattle.refusals.specs.AnswerAt.{AnswerAt, Fine, Fault, and_then}
use Rattle.refusals.specs.Table.{number_differs}
use Rattle.refusals.proofs.Pick.{at_true}
use Rattle.pen.specs.Pens.{size}
use Rattle.edges.specs.Edges.{max_nodes}
use Rattle.symbols.specs.declared.SymbolTable.{SymbolTable}
use Rattle.form.specs.Form.{max_tape}
use Rattle.form.specs.Statements.{Statement, statements}
use Rattle.evaluator.specs.Expression.{Value}
use Rattle.names.specs.Names.{names_of, declare_of, notes_after}
use Rattle.names.proofs.Kept.{notes_are}
use Rattle.walk.specs.Walk.{Origin, origin}
use Rattle.walk.specs.Values.{numbered, declarations}
use Rattle.walk.specs.Numbers.{numbers_in, numbers_by, reads_noted}
use Rattle.walk.proofs.Agrees.{Alike}
use Rattle.walk.proofs.Columns.{by_node_lem}
use Rattle.tries.specs.Tries.{Trying, start, tries}
use Rattle.tries.specs.Write.{tried_all, write_of}
use Rattle.tries.proofs.Agrees.{tries_alike, write_allowed}
use Rattle.reads.specs.Reads.{reads_on}
use Rattle.reads.proofs.Names.{declare_is, few_names}
use Rattle.reads.proofs.Reading.{all_alike}
use Rattle.number_list.specs.Lists.{count, values_of}
use Rattle.number_list.proofs.Kept.{values_length}
use Rattle.compares.specs.Compared.{checker}
use Rattle.verdict.specs.Verdict.{judged, verdict_of}
use Rattle.checker.specs.Check.{checked_by, checked}
use Rattle.checker.specs.Call.{is_allowed, check_of}

-- ---- memory of the call's own

-- the notes before the names
abbrev pub blank : List ℕ
blank = replicate 65536 0

pub blank_length : length blank ≡ 65536
blank_length = length-replicate {A = ℕ} 65536 0

-- ---- arguments

pub record Allowed (t i s b : ℕ) : Type 0 where
  pub tape : t ≤ max_tape
  pub initial : i ≤ size
  pub start : s ≤ size
  pub bytes : b ≤ size

pub allowed : (t i s b : ℕ) → is_allowed t i s b ≡ true → Allowed t i s b
unfolding is_allowed
allowed t i s b e =
    let x = (and-eq-true_iff (leb t max_tape && leb i size && leb s size) (leb b size)).0 e in
    let y = (and-eq-true_iff (leb t max_tape && leb i size) (leb s size)).0 x.0 in
    let z = (and-eq-true_iff (leb t max_tape) (leb i size)).0 y.0 in
    record {
      tape = leb-true t max_tape z.0;
      initial = leb-true i size z.1;
      start = leb-true s size y.1;
      bytes = leb-true b size x.1;
    }

-- ---- the check of a tape whose names have been resolved

-- from: the start that is checked
module _ (tape nodes : List ℕ) (initial : ℕ) (numbers : List ℤ) (from : ℕ) (bytes : List ℕ) where
  abbrev xs : List Statement
  xs = statements tape

  abbrev verdict : AnswerAt (Unit {0})
  verdict = checked_by (reads_noted tape nodes) xs (origin initial) numbers from bytes

  abbrev all_tried : AnswerAt Trying
  all_tried = tries (reads_noted tape nodes) checker (numbered (values_of xs numbers)) (start (origin initial)) xs

  -- n: how many numbers a list has for the tape
  module _ {n : ℕ} (n-is : n ≡ count xs) where
    numbers_fit : n ≡ length numbers → and_then all_tried (judged from bytes) ≡ verdict
    unfolding checked_by
    numbers_fit e = rw (eq-eqb (length numbers) (count xs) (sym e ∙ n-is))

  -- the numbers stand in an array
  module _ (asked : (length tape ≤ max_tape) × (initial ≤ size) × (declarations xs < 1024)) {n : ℕ} {held : List (Option ℤ)}
      (spread : (n ≡ count xs) × (held ≡ numbers_by (values_of xs numbers))) where
    by_arrays : write_of tape nodes held initial checker size ≡ all_tried
    unfolding tried_all
    by_arrays =
        let short : length (values_of xs numbers) < 1024 = omega (arith, asked.2, values_length xs numbers) in
        write_allowed tape nodes _ initial checker asked.0 asked.1 refl
        ∙ ap (λ (f : ℕ → Option ℤ). tries (reads_noted tape nodes) checker f (start (origin initial)) xs)
        (ap numbers_in spread.1 ∙ by_node_lem (values_of xs numbers) short)

    pub numbers_judged : n ≡ length numbers → verdict_of tape nodes held initial from bytes ≡ verdict
    unfolding verdict_of
    numbers_judged fits = ap (λ (a : AnswerAt Trying). and_then a (judged from bytes)) by_arrays ∙ numbers_fit spread.0 fits

-- ---- form and names before them

abbrev Reads : Type 0
Reads = (ℕ → Option ℤ) → ℤ → ℕ → Value

checked_alike : (r s : Reads) (xs : List Statement) (o : Origin) (numbers : List ℤ) (from : ℕ) (bytes : List ℕ) → Alike r s xs
    → checked_by r xs o numbers from bytes ≡ checked_by s xs o numbers from bytes
unfolding checked_by
checked_alike r s xs o numbers from bytes h =
    ap (λ (a : AnswerAt Trying). pick (eqb (length numbers) (count xs)) (and_then a (judged from bytes)) (Fault number_differs 0))
    (tries_alike r s checker (numbered (values_of xs numbers)) (start o) xs h)

module _ (tape : List ℕ) (o : Origin) (numbers : List ℤ) (from : ℕ) (bytes : List ℕ) where
  checked_fault : {m at : ℕ} → names_of tape ≡ Fault m at → Fault m at ≡ checked tape o numbers from bytes
  unfolding checked
  checked_fault e =
      sym (ap (λ (a : AnswerAt SymbolTable). and_then a (λ t. checked_by (reads_on tape t) (statements tape) o numbers from bytes)) e)

  -- by what is noted at the name records
  checked_noted : {t : SymbolTable} → names_of tape ≡ Fine t → (nodes : List ℕ) → length nodes ≡ max_tape → {nodes' : List ℕ}
      → nodes' ≡ notes_after tape nodes (declare_of tape (length nodes))
      → checked_by (reads_noted tape nodes') (statements tape) o numbers from bytes ≡ checked tape o numbers from bytes
  unfolding checked
  checked_noted {t} fine nodes long {nodes'} is =
      let resolved = notes_are tape (length nodes) (declare_is tape long ∙ fine) nodes long in
      ap (λ (l : List ℕ). checked_by (reads_noted tape l) (statements tape) o numbers from bytes) is
      ∙ checked_alike _ (reads_on tape t) (statements tape) o numbers from bytes (all_alike tape fine _ resolved)
      ∙ sym (ap (λ (a : AnswerAt SymbolTable). and_then a (λ t. checked_by (reads_on tape t) (statements tape) o numbers from bytes)) fine)

-- ---- the call

-- behind the test of the arguments, with nodes lent to the names for their notes
module _ (tape : List ℕ) (initial : ℕ) (numbers : List ℤ) (from : ℕ) (bytes : List ℕ)
    (in_range_lem : is_allowed (length tape) initial from (length bytes) ≡ true) (nodes : List ℕ) (long : length nodes ≡ max_tape) where
  -- the names refuse
  pub names_stop : {m at : ℕ} → Fault m at ≡ declare_of tape (length nodes) → Fault m at ≡ check_of tape initial numbers from bytes
  unfolding check_of
  names_stop told =
      checked_fault tape (origin initial) numbers from bytes (sym (told ∙ declare_is tape long)) ∙ at_true _ _ in_range_lem

  -- or are declared, in the table t: then they are few
  module _ {t : SymbolTable} (told : Fine t ≡ declare_of tape (length nodes)) where
    named : names_of tape ≡ Fine t
    named = sym (told ∙ declare_is tape long)

    pub names_few : (length tape ≤ max_tape) × (initial ≤ size) × (declarations (statements tape) < max_nodes)
    names_few = let fine = allowed _ _ _ _ in_range_lem in (fine.tape, fine.initial, few_names tape named)

    pub names_go : {nodes' : List ℕ} → nodes' ≡ notes_after tape nodes (declare_of tape (length nodes))
        → {v : AnswerAt (Unit {0})} → v ≡ checked_by (reads_noted tape nodes') (statements tape) (origin initial) numbers from bytes
        → v ≡ check_of tape initial numbers from bytes
    unfolding check_of
    names_go noted v_is =
        v_is ∙ checked_noted tape (origin initial) numbers from bytes named nodes long noted ∙ at_true _ _ in_range_lem
