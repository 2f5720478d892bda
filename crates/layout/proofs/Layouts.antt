-- What a layout answers: form and names refuse, or the passes behind them tell. Assumes nothing.
use mathlib.Core.Bool.{false}
use mathlib.Core.List.{List}
use mathlib.Core.Path.{◌≡◌, sym, ap, ◌∙◌}
use Prim.Native.Nat.{ℕ, ◌≤◌, ◌<◌}
use lib.ListN.{length}
use borrow.Author.Tests.{le-leb, lt-leb, eqb-true}
use Rattle.refusals.specs.AnswerAt.{AnswerAt, Fine, Fault, and_then}
use Rattle.refusals.specs.Table.{argument}
use Rattle.refusals.proofs.Answers.{fine_passed, fine_then, fault_is}
use Rattle.pen.specs.Pens.{size}
use Rattle.symbols.specs.declared.SymbolTable.{SymbolTable}
use Rattle.form.specs.Form.{max_tape}
use Rattle.form.specs.Statements.{statements}
use Rattle.form.proofs.Sound.{form_short}
use Rattle.names.specs.Names.{names_of, declare_of, notes_after}
use Rattle.names.proofs.Kept.{names_sound, notes_are}
use Rattle.walk.specs.Walk.{origin}
use Rattle.walk.specs.Values.{Values}
use Rattle.walk.specs.Numbers.{reads_noted}
use Rattle.passes.specs.Passes.{settled}
use Rattle.passes.specs.Settle.{settle_of}
use Rattle.passes.proofs.Agrees.{settled_alike}
use Rattle.reads.specs.Reads.{reads_on}
use Rattle.reads.proofs.Names.{declare_is, few_names}
use Rattle.reads.proofs.Reading.{all_alike}
use Rattle.layout.specs.Layout.{layout_of, noted_of}
use Rattle.layout.proofs.Settling.{settle_allowed}

-- ---- an initial place that is too large

module _ (tape : List ℕ) (initial : ℕ) (far : size < initial) where
  pub far_refused : (places : ℕ) → Fault argument 0 ≡ layout_of tape initial places
  unfolding layout_of
  far_refused places = rw (lt-leb initial size far)

  pub far_notes : (nodes : List ℕ) → nodes ≡ noted_of tape initial nodes
  unfolding noted_of
  far_notes nodes = rw (lt-leb initial size far)

-- ---- and one that is not

module _ (tape : List ℕ) (initial : ℕ) (low : initial ≤ size) (nodes : List ℕ) where
  abbrev names : AnswerAt SymbolTable
  names = declare_of tape (length nodes)

  -- the passes behind form and names
  abbrev then_settled : AnswerAt SymbolTable → AnswerAt (ℕ × Values)
  then_settled a = and_then a (λ t. settled (reads_on tape t) (statements tape) (origin initial))

  laid_out : then_settled names ≡ layout_of tape initial (length nodes)
  unfolding layout_of
  laid_out = rw (le-leb initial size low)

  pub noted : notes_after tape nodes names ≡ noted_of tape initial nodes
  unfolding noted_of
  noted = rw (le-leb initial size low)

  -- form and names refuse
  pub names_stop : {m at : ℕ} → names ≡ Fault m at → Fault m at ≡ layout_of tape initial (length nodes)
  names_stop e = sym (ap then_settled e) ∙ laid_out

  -- or are fine: then there was room for the notes
  module _ {t : SymbolTable} (fine : names ≡ Fine t) where
    named : (length nodes ≡ max_tape) × (names_of tape ≡ Fine t)
    unfolding declare_of
    named =
        let passed = fine_passed _ (names_of tape) argument 0 fine in
        (eqb-true (length nodes) max_tape passed.0, passed.1)

    -- by what is noted at the name records
    settled_noted : settled (reads_noted tape (notes_after tape nodes names)) (statements tape) (origin initial)
        ≡ layout_of tape initial (length nodes)
    settled_noted =
        let resolved = notes_are tape (length nodes) fine nodes named.0 in
        settled_alike _ (reads_on tape t) (statements tape) (origin initial) (all_alike tape named.1 _ resolved)
        ∙ sym (ap then_settled fine)
        ∙ laid_out

    -- the passes behind them tell
    pub names_go : {nodes' : List ℕ} → nodes' ≡ notes_after tape nodes names
        → settle_of tape nodes' initial ≡ layout_of tape initial (length nodes)
    names_go is =
        let short = form_short false tape (names_sound tape named.1).0 in
        ap (λ (l : List ℕ). settle_of tape l initial) is
        ∙ settle_allowed tape (notes_after tape nodes names) initial short low (few_names tape named.1)
        ∙ settled_noted

  -- ---- what a layout tells the crates above

  -- where it is fine, so were form and names, and the passes by what is noted
  pub laid_by : {n : ℕ} {L : Values} → layout_of tape initial (length nodes) ≡ Fine (n, L) → {nodes' : List ℕ}
      → nodes' ≡ noted_of tape initial nodes
      → (t : SymbolTable) × (names_of tape ≡ Fine t) × (nodes' ≡ notes_after tape nodes names)
      × (settled (reads_noted tape nodes') (statements tape) (origin initial) ≡ Fine (n, L))
  laid_by {n} {L} e is =
      let (t, fine, passes) = fine_then names (λ t. settled (reads_on tape t) (statements tape) (origin initial)) (n, L) (laid_out ∙ e) in
      let notes = is ∙ sym noted in (
        t,
        (named fine).1,
        notes,
        ap (λ (l : List ℕ). settled (reads_noted tape l) (statements tape) (origin initial)) notes ∙ settled_noted fine ∙ e,
      )

  -- where it is refused, so is all that goes on behind it
  pub laid_stops : {A : Type 0} (f : SymbolTable → ℕ × Values → AnswerAt A) → length nodes ≡ max_tape → {m at : ℕ}
      → layout_of tape initial (length nodes) ≡ Fault m at
      → and_then (names_of tape) (λ t. and_then (settled (reads_on tape t) (statements tape) (origin initial)) (f t)) ≡ Fault m at
  laid_stops {A} f long {m} {at} e =
      go (names_of tape) (ap then_settled (sym (declare_is tape long)) ∙ laid_out ∙ e)
    where
      go : (a : AnswerAt SymbolTable) → then_settled a ≡ Fault m at
          → and_then a (λ t. and_then (settled (reads_on tape t) (statements tape) (origin initial)) (f t)) ≡ Fault m at
      go (Fine t) e = ap (λ (b : AnswerAt (ℕ × Values)). and_then b (f t)) e
      go (Fault n i) e = fault_is e
