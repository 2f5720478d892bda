-- What the crates above may rely on: the table of a tape's names is sound, declaration k is node k, and every name record of the tape
-- is noted. Assumes nothing.
use mathlib.Core.Bool.{Bool, true, false}
use mathlib.Core.List.{List}
use mathlib.Core.Path.{◌≡◌, refl, sym, ap, ◌∙◌, subst}
use Prim.Native.Nat.{ℕ, ◌+◌, ◌≤◌}
use native.Mathlib.Omega.{arith}
use lib.Dec.{eqb}
use lib.ListN.{length}
use Rattle.refusals.specs.Answer.{pick}
use Rattle.refusals.specs.AnswerAt.{AnswerAt, Fine, Fault, and_then}
use Rattle.refusals.specs.Table.{argument}
use Rattle.refusals.proofs.Never.{never}
use Rattle.symbols.specs.declared.SymbolTable.{SymbolTable}
use Rattle.symbols.specs.Symbols.{new, sound}
use Rattle.symbols.proofs.Kept.{sound_table}
use Rattle.form.specs.Form.{max_tape, tape_form}
use Rattle.form.specs.Statements.{Statement, statements, over_statements}
use Rattle.form.proofs.Sound.{form_short}
use Rattle.lookup.specs.Notes.{Resolved}
use Rattle.lookup.proofs.Notes.{notes_resolved}
use Rattle.names.specs.Scopes.{outermost, scopes_behind, scope_at}
use Rattle.names.specs.Names.{Declaring, declaring, declare_one, names_of, declare_of, notes_after}
use Rattle.names.specs.Steps.{declared_on}
use Rattle.names.proofs.Tables.{good_new, ran, declared_ran}

-- ---- declarations

-- behind any statements that were accepted: their declarations, and the root, are all nodes, the last declared the last node
pub declared_nodes : (xs : List Statement) (d : Declaring) → over_statements Declaring declare_one (declaring new outermost) xs ≡ Fine d
    → (d.scopes ≡ scopes_behind outermost xs) × (d.table.nodes ≡ d.scopes.names + 1)
declared_nodes xs d fine = let all = ran xs (declaring new outermost) good_new fine in (all.scopes, all.good.nodes)

-- ---- an accepted tape

pub names_sound : (tape : List ℕ) {t : SymbolTable} → names_of tape ≡ Fine t → (tape_form tape ≡ Fine tt) × (declared_on tape ≡ Fine t)
unfolding names_of declared_on
names_sound tape {t} fine = go (tape_form tape) refl fine
  where
    go : (a : AnswerAt (Unit {0})) → tape_form tape ≡ a → and_then a (λ u. declared_on tape) ≡ Fine t
        → (tape_form tape ≡ Fine tt) × (declared_on tape ≡ Fine t)
    go (Fine u) is fine = (is, fine)
    go (Fault n at) is fine = never (cc)

pub declared_sound : (tape : List ℕ) {t : SymbolTable} → names_of tape ≡ Fine t → sound t ≡ true
declared_sound tape fine =
    let run = declared_ran tape (names_sound tape fine).1 in
    ap sound (sym run.1) ∙ sound_table run.0.table run.2.good.is_sound

pub declared_count : (tape : List ℕ) {t : SymbolTable} → names_of tape ≡ Fine t
    → ((scopes_behind outermost (statements tape)).names + 1 ≡ t.nodes) × (t.nodes ≤ 1024)
declared_count tape fine =
    let run = declared_ran tape (names_sound tape fine).1 in
    let nodes = ap (λ (t : SymbolTable). t.nodes) run.1 in (
      ap (λ (n : ℕ). n + 1) (ap (λ s. s.names) (sym run.2.scopes)) ∙ sym run.2.good.nodes ∙ nodes,
      omega (arith, nodes, run.2.good.is_sound.few_nodes),
    )

-- ---- the notes

-- at each name record of an accepted tape stands the node that it reaches from the scope in which it stands
pub notes_are : (tape : List ℕ) (places : ℕ) {t : SymbolTable} → declare_of tape places ≡ Fine t
    → (nodes : List ℕ) → length nodes ≡ max_tape
    → Resolved tape t.links t.edges (scope_at tape) (notes_after tape nodes (declare_of tape places))
unfolding declare_of
notes_are tape places {t} fine nodes size = go (eqb places max_tape) fine
  where
    go : (b : Bool) → pick b (names_of tape) (Fault argument 0) ≡ Fine t
        → Resolved tape t.links t.edges (scope_at tape) (notes_after tape nodes (pick b (names_of tape) (Fault argument 0)))
    go true fine =
        let short = form_short false tape (names_sound tape fine).0 in
        subst (λ (a : AnswerAt SymbolTable). Resolved tape t.links t.edges (scope_at tape) (notes_after tape nodes a)) (sym fine)
        (notes_resolved tape t.links t.edges (scope_at tape) nodes (omega arith))
    go false fine = never (cc)
