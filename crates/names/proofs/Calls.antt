-- What the calls answer, by the tape's form and by the edges that were written. Assumes nothing.
use mathlib.Core.List.{List}
use mathlib.Core.Path.{◌≡◌, sym, ap, ◌∙◌}
use Prim.Native.Nat.{ℕ, ◌+◌, ◌≤◌}
use native.Mathlib.Omega.{arith}
use borrow.Author.Tests.{eq-eqb, ne_eqb}
use Rattle.refusals.specs.AnswerAt.{AnswerAt, Fine, Fault, and_then}
use Rattle.refusals.specs.Table.{argument}
use Rattle.symbols.specs.declared.SymbolTable.{SymbolTable}
use Rattle.form.specs.Form.{tape_form}
use Rattle.lookup.specs.Notes.{notes_of}
use Rattle.names.specs.Scopes.{scope_at}
use Rattle.names.specs.Names.{names_of, declare_of, notes_after}
use Rattle.names.specs.Steps.{table_of, declared_on}
use Rattle.names.proofs.Tables.{declared_ran}

pub few_edges : (tape links : List ℕ) (n : ℕ) → declared_on tape ≡ Fine (table_of links n) → n + 1 ≤ 1024
unfolding table_of
few_edges tape links n declared =
    let run = declared_ran tape declared in
    omega (arith, run.2.good.is_sound.few_nodes, ap (λ (t : SymbolTable). t.nodes) run.1)

-- ---- what is answered: a is what the definition answers

-- the result says x, and the notes are ns
abbrev Leaves : List ℕ → List ℕ → AnswerAt SymbolTable → List ℕ → AnswerAt SymbolTable → Type 0
Leaves tape nodes x ns a = (x ≡ a) × (ns ≡ notes_after tape nodes a)

pub leaves_fault : (tape nodes : List ℕ) {n at : ℕ} (a : AnswerAt SymbolTable) → a ≡ Fault n at → Leaves tape nodes (Fault n at) nodes a
leaves_fault tape nodes a e = (sym e, ap (notes_after tape nodes) (sym e))

pub leaves_table : (tape nodes links : List ℕ) (n : ℕ) {ns : List ℕ} → declared_on tape ≡ Fine (table_of links n)
    → ns ≡ notes_of tape links n (scope_at tape) nodes → Leaves tape nodes (Fine (table_of links n)) ns (declared_on tape)
unfolding table_of
leaves_table tape nodes links n e noted = (sym e, noted ∙ ap (notes_after tape nodes) (sym e))

-- the same where the definition answers b, which is a
pub leaves_same : (tape nodes : List ℕ) {x : AnswerAt SymbolTable} {ns : List ℕ} (a b : AnswerAt SymbolTable) → b ≡ a
    → Leaves tape nodes x ns a → Leaves tape nodes x ns b
leaves_same tape nodes a b e l = (l.0 ∙ sym e, l.1 ∙ ap (notes_after tape nodes) (sym e))

-- ---- the tests of the call

module _ (tape : List ℕ) (places : ℕ) where
  pub wrong_places : (places ≡ 65536 → ⊥) → declare_of tape places ≡ Fault argument 0
  unfolding declare_of
  wrong_places z = rw (ne_eqb places 65536 z)

  module _ (right : places ≡ 65536) where
    by_form : declare_of tape places ≡ and_then (tape_form tape) (λ u. declared_on tape)
    unfolding declare_of names_of declared_on
    by_form = rw (eq-eqb places 65536 right)

    pub bad_form : {n at : ℕ} → Fault n at ≡ tape_form tape → declare_of tape places ≡ Fault n at
    bad_form e = by_form ∙ ap (λ (a : AnswerAt (Unit {0})). and_then a (λ u. declared_on tape)) (sym e)

    pub good_form : Fine tt ≡ tape_form tape → declare_of tape places ≡ declared_on tape
    good_form e = by_form ∙ ap (λ (a : AnswerAt (Unit {0})). and_then a (λ u. declared_on tape)) (sym e)
