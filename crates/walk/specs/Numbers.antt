-- Numbers that stand in an array, by node; and expressions of a tape whose names have been resolved. Assumes nothing: these are
-- definitions.
use Rattle.std.specs.Prelude.{ℕ, zero, suc, ◌-◌, List, ◌∷◌, ◌++◌, ltb, ℤ, length, get_or, replicate, Option, None}
use Rattle.refusals.specs.Answer.{pick}
use Rattle.edges.specs.Edges.{max_nodes}
use Rattle.symbols.specs.Symbols.{number_at}
use Rattle.form.specs.Form.{max_depth}
use Rattle.form.specs.Statements.{is_followed, what_of}
use Rattle.evaluator.specs.Expression.{Value, Unresolved, expression}
use Rattle.walk.specs.Values.{Values}

-- ---- numbers by node

-- what an array says of a node, if a table has it
unfoldable pub numbers_in : List (Option ℤ) → ℕ → Option ℤ
numbers_in numbers n = pick (ltb n max_nodes) (number_at numbers n) None

-- a list with the same behind it, up to n in all
abbrev pub filled : {A : Type 0} → ℕ → A → List A → List A
filled n a l = l ++ replicate (n - length l) a

-- the array of these values: the root and what is no name have no number
unfoldable pub numbers_by : Values → List (Option ℤ)
numbers_by L = filled max_nodes None (None ∷ L)

-- ---- expressions

-- the node that is noted at a name record, if one is: one more than it
abbrev pub reached : (ℕ → Option ℤ) → ℕ → Option ℤ
reached numbers zero = None
reached numbers (suc n) = numbers n

-- an expression of a tape, by the notes of its names
unfoldable pub reads_noted : List ℕ → List ℕ → (ℕ → Option ℤ) → ℤ → ℕ → Value
reads_noted tape nodes numbers place at = (expression tape (λ i. reached numbers (get_or nodes i 0)) place max_depth at).1

-- the expression behind a statement's record, which begins at an offset; of a record without one, unresolved
unfoldable pub value_of : List ℕ → List ℕ → (ℕ → Option ℤ) → ℤ → List ℕ → ℕ → Value
value_of tape nodes numbers place r at = pick (is_followed (what_of r)) (reads_noted tape nodes numbers place at) (Unresolved at)
