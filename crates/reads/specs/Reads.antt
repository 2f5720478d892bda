-- What an expression on a tape means once its names are declared. Assumes nothing: these are definitions.
use Rattle.std.specs.Prelude.{ℕ, List, ℤ, Option, None, Some}
use Rattle.symbols.specs.declared.SymbolTable.{SymbolTable}
use Rattle.edges.specs.Edges.{query_of}
use Rattle.symbols.specs.Symbols.{edges_of}
use Rattle.tape.specs.Record.{bytes_at}
use Rattle.form.specs.Form.{max_depth}
use Rattle.lookup.specs.Lookup.{path_of}
use Rattle.evaluator.specs.Expression.{Value, expression}
use Rattle.names.specs.Scopes.{scope_at}

-- the node that the name at an offset reaches: "Lookup takes the node that query finds", from the scope in which the name stands
unfoldable pub reaches : List ℕ → SymbolTable → ℕ → Option ℕ
reaches tape t at = query_of (edges_of t) (scope_at tape at) (path_of (bytes_at tape at))

-- "one without a number is unresolved"
abbrev pub number_in : (ℕ → Option ℤ) → Option ℕ → Option ℤ
number_in numbers None = None
number_in numbers (Some n) = numbers n

-- the expression at an offset, at a place, where the nodes of the table t have these numbers
unfoldable pub reads_on : List ℕ → SymbolTable → (ℕ → Option ℤ) → ℤ → ℕ → Value
reads_on tape t numbers place at = (expression tape (λ i. number_in numbers (reaches tape t i)) place max_depth at).1
