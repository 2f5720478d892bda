-- The public calls of the evaluator: document 01's "Evaluator". Assumes nothing: these are definitions.
use Rattle.std.specs.Prelude.{ℕ, zero, suc, List, ltb, ℤ, get_or, Option, None, Some}
use Rattle.refusals.specs.Answer.{pick}
use Rattle.refusals.specs.AnswerAt.{AnswerAt, Fine, Fault, and_then}
use Rattle.refusals.specs.Table.{argument, unresolved}
use Rattle.symbols.specs.declared.SymbolTable.{SymbolTable}
use Rattle.edges.specs.Edges.{max_nodes, query_of}
use Rattle.symbols.specs.Symbols.{edges_of, is_node, number_at}
use Rattle.tape.specs.Record.{bytes_at}
use Rattle.form.specs.Form.{max_depth, expression_form}
use Rattle.lookup.specs.Lookup.{path_of}
use Rattle.evaluator.specs.Expression.{Value, Number, Unresolved, Refuses, Meaning, expression}

-- ---- which number a name reaches

-- in a table, from a scope: "Lookup takes the node that query finds: one without a number is unresolved"
abbrev pub read : SymbolTable → Option ℕ → Option ℤ
read t None = None
read t (Some n) = number_at t.numbers n

unfoldable pub from_scope : SymbolTable → ℕ → List ℕ → ℕ → Option ℤ
from_scope t scope tape at = read t (query_of (edges_of t) scope (path_of (bytes_at tape at)))

-- where the node that the name at an offset reaches has been noted: one more than the node, or 0 where there is none
abbrev pub by_node : List (Option ℤ) → ℕ → Option ℤ
by_node numbers zero = None
by_node numbers (suc n) = pick (ltb n max_nodes) (number_at numbers n) None

unfoldable pub from_nodes : List ℕ → List (Option ℤ) → ℕ → Option ℤ
from_nodes nodes numbers at = by_node numbers (get_or nodes at 0)

-- ---- the calls

-- the expression at an offset of a tape whose names have been resolved
unfoldable pub expression_at : List ℕ → List ℕ → List (Option ℤ) → ℤ → ℕ → Meaning
expression_at tape nodes numbers place at = expression tape (from_nodes nodes numbers) place max_depth at

-- "gives 10 and 11 at 0"
abbrev pub answered : Value → AnswerAt ℤ
answered (Number z) = Fine z
answered (Unresolved i) = Fault unresolved 0
answered (Refuses n i) = Fault n 0

-- "Called alone it first checks its expression's form": behind the arguments, table and scope, which are 1
unfoldable pub evaluate_of : List ℕ → SymbolTable → ℕ → ℤ → AnswerAt ℤ
evaluate_of bytes t scope place =
    pick (is_node t scope)
    (and_then (expression_form bytes) (λ u. answered (expression bytes (from_scope t scope bytes) place max_depth 0).1))
    (Fault argument 0)
