-- The public calls of this crate: the passes over a tape whose names have been resolved. Assumes nothing: these are definitions.
use Rattle.std.specs.Prelude.{ℕ, Bool, ◌&&◌, List, leb, ltb, ℤ, length, Option, Result, Ok, Err}
use Rattle.refusals.specs.Answer.{pick}
use Rattle.refusals.specs.AnswerAt.{AnswerAt, Fine, Fault}
use Rattle.refusals.specs.Table.{argument}
use Rattle.refusals.specs.Says.{number_of}
use Rattle.refusals.specs.declared.Fault as F
use Rattle.edges.specs.Edges.{max_nodes}
use Rattle.form.specs.Form.{max_tape}
use Rattle.form.specs.Statements.{statements}
use Rattle.walk.specs.Walk.{origin, begin}
use Rattle.walk.specs.Values.{Values, declarations}
use Rattle.walk.specs.Numbers.{numbers_in, numbers_by, reads_noted}
use Rattle.passes.specs.declared.Settled.{Settled}
use Rattle.passes.specs.Passes.{pass, settled}

-- a tape of up to 65,536 bytes, with no more names than a table has room for beside the root, from a place of at most 65,536
unfoldable pub is_allowed : List ℕ → ℕ → Bool
is_allowed tape initial = leb (length tape) max_tape && leb initial 65536 && ltb (declarations (statements tape)) max_nodes

unfoldable pub settle_of : List ℕ → List ℕ → ℕ → AnswerAt (ℕ × Values)
settle_of tape nodes initial =
    pick (is_allowed tape initial) (settled (reads_noted tape nodes) (statements tape) (origin initial)) (Fault argument 0)

-- one pass that reads these numbers
unfoldable pub pass_once : List ℕ → List ℕ → List (Option ℤ) → ℕ → AnswerAt (ℕ × Values)
pass_once tape nodes numbers initial =
    pick (is_allowed tape initial)
    (Fine (1, pass (reads_noted tape nodes) (numbers_in numbers) (begin (origin initial)) (statements tape)))
    (Fault argument 0)

-- what is handed over: how many passes, and the numbers by node
abbrev pub handed : ℕ × Values → ℕ × List (Option ℤ)
handed (n, L) = (n, numbers_by L)

abbrev pub says_settled : Result Settled F.Fault → AnswerAt (ℕ × List (Option ℤ))
says_settled (Ok s) = Fine (s.passes, s.numbers)
says_settled (Err f) = Fault (number_of f.why) f.at
