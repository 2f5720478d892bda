-- What private functions promise each other on the way: the scope as one node, and the edges as lent words. No public promise cites
-- these. Assumes nothing: these are definitions.
use Rattle.std.specs.Prelude.{ℕ, zero, suc, ◌+◌, ◌*◌, Bool, List, [], ◌∷◌, eqb, ltb, get_or, replicate, None, is_some}
use Rattle.refusals.specs.Answer.{pick}
use Rattle.refusals.specs.AnswerAt as At
use Rattle.refusals.specs.AnswerAt.{AnswerAt, Fine, Fault}
use Rattle.refusals.specs.Memory.{over}
use Rattle.refusals.specs.Table.{no_room, name_taken}
use Rattle.little.specs.Little.{number_at}
use Rattle.symbols.specs.declared.SymbolTable.{SymbolTable}
use Rattle.edges.specs.Edges.{root, max_nodes, width, child_of, edges_in}
use Rattle.symbols.specs.Symbols.{new}
use Rattle.tape.specs.Kinds.{open_scope, close_scope}
use Rattle.form.specs.Form.{declares}
use Rattle.form.specs.Statements.{statements, over_statements}
use Rattle.names.specs.declared.Walk.{Walk}
use Rattle.names.specs.Scopes.{outermost}
use Rattle.names.specs.Names.{Declaring, declaring, declare_one}

-- ---- one record

abbrev pub walk : ℕ → ℕ → Walk
walk names scope = record { names = names; scope = scope }

-- the scope around a scope on the tape: its declaration's edge leaves it
abbrev pub enclosing : List ℕ → ℕ → ℕ
enclosing links zero = root
enclosing links (suc k) = get_or links (width * k) 0

-- behind a record
unfoldable pub walk_after : List ℕ → Walk → List ℕ → Walk
walk_after links w r =
    let k = get_or r 0 0 in
    pick (eqb k open_scope) (walk (w.names + 1) (w.names + 1))
    (pick (eqb k close_scope) (walk w.names (enclosing links w.scope))
    (pick (declares k) (walk (w.names + 1) w.scope) w))

-- the id is in the scope already, by n edges
unfoldable pub taken_in : List ℕ → ℕ → ℕ → ℕ → Bool
taken_in links n scope id = is_some (child_of (edges_in links n) scope id)

-- the refusal that a record brings, or 0
unfoldable pub fault_of : List ℕ → Walk → List ℕ → ℕ
fault_of links w r =
    pick (declares (get_or r 0 0))
    (pick (taken_in links w.names w.scope (number_at 2 r 1)) name_taken
    (pick (ltb (w.names + 1) max_nodes) 0 no_room))
    0

-- the edges with that of the name that a record declares
unfoldable pub edges_after : List ℕ → Walk → List ℕ → List ℕ
edges_after links w r =
    pick (declares (get_or r 0 0)) (over links (width * w.names) (w.scope ∷ number_at 2 r 1 ∷ (w.names + 1) ∷ [])) links

-- ---- the whole tape

-- the table of n names, whose edges are these words
unfoldable pub table_of : List ℕ → ℕ → SymbolTable
table_of links n = record { nodes = n + 1; edges = n; links = links; numbers = replicate max_nodes None }

-- what a number of edges and their words say
abbrev pub tabled : List ℕ → AnswerAt ℕ → AnswerAt SymbolTable
tabled links (Fine n) = Fine (table_of links n)
tabled links (Fault n at) = Fault n at

-- the table of a sound tape's names
unfoldable pub declared_on : List ℕ → AnswerAt SymbolTable
declared_on tape = At.mapped (λ d. d.table) (over_statements Declaring declare_one (declaring new outermost) (statements tape))
