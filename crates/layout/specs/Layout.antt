-- The layout of a tape: how many passes there were, and the number of each name. Document 01: form, names, then "Passes". Assumes
-- nothing: these are definitions.
use Rattle.std.specs.Prelude.{ℕ, List, leb, length}
use Rattle.refusals.specs.Answer.{pick}
use Rattle.refusals.specs.AnswerAt.{AnswerAt, Fault, and_then}
use Rattle.refusals.specs.Table.{argument}
use Rattle.pen.specs.Pens.{size}
use Rattle.form.specs.Statements.{statements}
use Rattle.names.specs.Names.{declare_of, notes_after}
use Rattle.walk.specs.Walk.{origin}
use Rattle.walk.specs.Values.{Values}
use Rattle.passes.specs.Passes.{settled}
use Rattle.reads.specs.Reads.{reads_on}

-- the call, with memory of so many places for notes: an argument outside its range is a 1, "tested first"; then form and names, and
-- the least number of passes after which the numbers repeat
unfoldable pub layout_of : (tape : List ℕ) (initial places : ℕ) → AnswerAt (ℕ × Values)
layout_of tape initial places =
    pick (leb initial size) (and_then (declare_of tape places) (λ t. settled (reads_on tape t) (statements tape) (origin initial)))
    (Fault argument 0)

-- the notes afterwards; "for 1, unchanged"
unfoldable pub noted_of : (tape : List ℕ) (initial : ℕ) → List ℕ → List ℕ
noted_of tape initial nodes = pick (leb initial size) (notes_after tape nodes (declare_of tape (length nodes))) nodes
