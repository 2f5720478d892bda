-- The names of a tape. Document 01: "Then all names are declared in tape order; at a record, 3 (id already in that scope) before 2.
-- Only then are expressions evaluated, so a name sees later definitions in its own scope." Assumes nothing: these are definitions.
use Rattle.std.specs.Prelude.{ℕ, Bool, List, eqb, Option, None, Some, is_some}
use Rattle.refusals.specs.Answer.{Answer, Done, Refused, pick, mapped}
use Rattle.refusals.specs.AnswerAt as At
use Rattle.refusals.specs.AnswerAt.{AnswerAt, Fine, Fault, and_then}
use Rattle.refusals.specs.Table.{argument, name_taken}
use Rattle.symbols.specs.declared.SymbolTable.{SymbolTable}
use Rattle.edges.specs.Edges.{child_of}
use Rattle.symbols.specs.Symbols.{edges_of, new, insert}
use Rattle.form.specs.Form.{max_tape, tape_form}
use Rattle.form.specs.Statements.{What, Instruction, Open, Close, Label, Constant, SetPlace, Byte, Word, Screen, Statement, statements, over_statements}
use Rattle.lookup.specs.Notes.{notes_of}
use Rattle.names.specs.Scopes.{Scopes, outermost, scope_of, scopes_after, scope_at}

-- ---- declaring

-- the id that a statement declares, if it does: scopes, labels and constants are names
abbrev pub id_of : What → Option ℕ
id_of (Open id) = Some id
id_of (Label id) = Some id
id_of (Constant id) = Some id
id_of Close = None
id_of (Instruction mnemonic mode suffix) = None
id_of SetPlace = None
id_of Byte = None
id_of Word = None
id_of (Screen petscii) = None

-- "id already in that scope"
unfoldable pub is_taken : SymbolTable → ℕ → ℕ → Bool
is_taken t scope id = is_some (child_of (edges_of t) scope id)

-- the table with that id declared in a scope, without a number: "3 (id already in that scope) before 2"
abbrev pub declare : SymbolTable → ℕ → Option ℕ → Answer SymbolTable
declare t scope None = Done t
declare t scope (Some id) = pick (is_taken t scope id) (Refused name_taken) (mapped (λ made. made.0) (insert t scope id None))

-- what is carried from statement to statement
pub record Declaring : Type 0 where
  pub table : SymbolTable
  pub scopes : Scopes

abbrev pub declaring : SymbolTable → Scopes → Declaring
declaring t s = record { table = t; scopes = s }

unfoldable pub declare_one : Declaring → Statement → Answer Declaring
declare_one d x =
    mapped (λ t. declaring t (scopes_after d.scopes x.says)) (declare d.table (scope_of d.scopes) (id_of x.says))

-- "First the form is checked [..]. Then all names are declared in tape order"
unfoldable pub names_of : List ℕ → AnswerAt SymbolTable
names_of tape =
    and_then (tape_form tape)
    (λ u. At.mapped (λ d. d.table) (over_statements Declaring declare_one (declaring new outermost) (statements tape)))

-- ---- the call

-- with memory of so many places for notes: of 65,536, as a tape has that many offsets
unfoldable pub declare_of : List ℕ → ℕ → AnswerAt SymbolTable
declare_of tape places = pick (eqb places max_tape) (names_of tape) (Fault argument 0)

-- the notes afterwards: at each name record, the node that it reaches from the scope in which it stands; of a refused tape none
abbrev pub notes_after : List ℕ → List ℕ → AnswerAt SymbolTable → List ℕ
notes_after tape nodes (Fine t) = notes_of tape t.links t.edges (scope_at tape) nodes
notes_after tape nodes (Fault n at) = nodes
