-- The public calls of this crate. Assumes nothing: these are definitions.
use Rattle.std.specs.Prelude.{ℕ, Bool, ◌&&◌, List, eqb, leb, ℤ, length, Option, Result}
use Rattle.refusals.specs.Answer.{pick}
use Rattle.refusals.specs.AnswerAt.{AnswerAt, Fine, Fault, mapped}
use Rattle.refusals.specs.Says.{says_at}
use Rattle.refusals.specs.Table.{argument}
use Rattle.refusals.specs.declared.Fault as F
use Rattle.pen.specs.Pens.{size}
use Rattle.form.specs.Form.{max_tape}
use Rattle.form.specs.Statements.{statements}
use Rattle.walk.specs.Walk.{origin}
use Rattle.walk.specs.Numbers.{numbers_in, reads_noted}
use Rattle.compares.specs.declared.Compares.{Compares}
use Rattle.tries.specs.declared.Written.{Written}
use Rattle.tries.specs.Tries.{Trying, start, tries}

-- a tape of up to 65,536 bytes, an initial place of at most 65,536, an image of 65,536 bytes
unfoldable pub is_allowed : List ℕ → ℕ → ℕ → Bool
is_allowed tape initial places = leb (length tape) max_tape && leb initial size && eqb places size

-- every statement of a tape whose names have been resolved, tried with these numbers
unfoldable pub tried_all : List ℕ → List ℕ → List (Option ℤ) → ℕ → Compares → AnswerAt Trying
tried_all tape nodes numbers initial c =
    tries (reads_noted tape nodes) c (numbers_in numbers) (start (origin initial)) (statements tape)

unfoldable pub write_of : List ℕ → List ℕ → List (Option ℤ) → ℕ → Compares → ℕ → AnswerAt Trying
write_of tape nodes numbers initial c places =
    pick (is_allowed tape initial places) (tried_all tape nodes numbers initial c) (Fault argument 0)

-- where what is written starts and ends
abbrev pub range_of : Trying → ℕ × ℕ
range_of t = (t.page.pen.start, t.page.pen.end)

abbrev pub says_written : Result Written F.Fault → AnswerAt (ℕ × ℕ)
says_written written = mapped (λ w. (w.start, w.end)) (says_at written)

-- the whole image; a refusal leaves it as it was
abbrev pub image_or : List ℕ → AnswerAt Trying → List ℕ
image_or image (Fine t) = t.page.image
image_or image (Fault n at) = image
