-- The public call: its arguments, what it answers, and what it leaves in the text. Assumes nothing: these are definitions.
use Rattle.std.specs.Prelude.{ℕ, Bool, ◌&&◌, List, eqb, leb, length}
use Rattle.refusals.specs.Answer.{Answer, Done, Refused, pick}
use Rattle.refusals.specs.AnswerAt.{Fault}
use Rattle.refusals.specs.Memory.{over}
use Rattle.refusals.specs.Table.{argument}
use Rattle.pen.specs.Pens.{size}
use Rattle.form.specs.Form.{max_tape}
use Rattle.walk.specs.Walk.{origin}
use Rattle.record_lines.specs.Records.{said}
use Rattle.listing.specs.Listing.{listed}

-- ---- the text

-- "tape [..] at most 65,536 long, initial place [..] at most 65,536"
abbrev pub is_allowed : (tape initial : ℕ) → Bool
is_allowed tape initial = leb tape max_tape && leb initial size

-- what a listing says of a tape
unfoldable pub listing : List ℕ → ℕ → List ℕ
listing tape initial = said (pick (is_allowed (length tape) initial) (listed tape (origin initial)) (Fault argument 0))

-- ---- the call

-- how long the text buffer has to be: twenty bytes for each byte of a tape, and twenty for the last line
abbrev pub text_places : ℕ
text_places = 1310740

-- how long the text is. It stands at the buffer's beginning, and what is behind it is as it was; a buffer of another length is a 1 and is left alone
unfoldable pub list_of : List ℕ → ℕ → List ℕ → Answer ℕ × List ℕ
list_of tape initial text =
    pick (eqb (length text) text_places)
    (Done (length (listing tape initial)), over text 0 (listing tape initial))
    (Refused argument, text)
