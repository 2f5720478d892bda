-- What private functions promise each other on the way. No public promise cites it. Assumes nothing: it is a definition.
use Rattle.std.specs.Prelude.{ℕ, List, ℤ, Option}
use Rattle.tape.specs.Record.{bytes_at}
use Rattle.form.specs.Form.{max_depth}
use Rattle.lookup.specs.Lookup.{node_of}
use Rattle.lookup.specs.Notes.{noted}
use Rattle.evaluator.specs.Expression.{Value, expression}
use Rattle.evaluator.specs.Evaluate.{by_node}

-- the value of an expression alone, its names resolved in these edges from a scope
unfoldable pub value_from : List ℕ → List ℕ → ℕ → List (Option ℤ) → ℕ → ℤ → Value
value_from bytes links edges numbers scope place =
    (expression bytes (λ at. by_node numbers (noted (node_of links edges scope (bytes_at bytes at)))) place max_depth 0).1
