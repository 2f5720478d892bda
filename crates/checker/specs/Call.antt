-- The public call: its arguments, and what it answers. "The checker writes nothing": it has no memory lent for writing.
-- Assumes nothing: these are definitions.
use Rattle.std.specs.Prelude.{ℕ, Bool, ◌&&◌, List, leb, ℤ, length}
use Rattle.refusals.specs.Answer.{pick}
use Rattle.refusals.specs.AnswerAt.{AnswerAt, Fault}
use Rattle.refusals.specs.Table.{argument}
use Rattle.pen.specs.Pens.{size}
use Rattle.form.specs.Form.{max_tape}
use Rattle.walk.specs.Walk.{origin}
use Rattle.checker.specs.Check.{checked}

-- "tape and covered bytes are at most 65,536 long, initial place and start at most 65,536"
unfoldable pub is_allowed : (tape initial start bytes : ℕ) → Bool
is_allowed tape initial start bytes = leb tape max_tape && leb initial size && leb start size && leb bytes size

-- the call: an argument outside its range is a 1, "tested first"
unfoldable pub check_of : (tape : List ℕ) (initial : ℕ) (numbers : List ℤ) (start : ℕ) (bytes : List ℕ) → AnswerAt (Unit {0})
check_of tape initial numbers start bytes =
    pick (is_allowed (length tape) initial start (length bytes))
    (checked tape (origin initial) numbers start bytes)
    (Fault argument 0)
