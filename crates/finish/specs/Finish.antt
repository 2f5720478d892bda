-- What the tries of a build answer, and what they leave of an image and of a number list. Document 01: "A finished build leaves the list's
-- numbers" and the image; a refused one leaves both as they were. Assumes nothing: these are definitions.
use Rattle.std.specs.Prelude.{ℕ, List, ℤ, length, Option, Result}
use Rattle.refusals.specs.AnswerAt.{AnswerAt, Fine, Fault, mapped}
use Rattle.refusals.specs.Says.{says_at}
use Rattle.refusals.specs.declared.Fault as F
use Rattle.compares.specs.Compared.{builder}
use Rattle.tries.specs.Tries.{Trying}
use Rattle.tries.specs.Write.{write_of}
use Rattle.number_list.specs.Calls.{onto, gathered}
use Rattle.finish.specs.declared.Built.{Built}

-- start, end, how many numbers, and passes
abbrev pub Report : Type 0
Report = ℕ × ℕ × ℕ × ℕ

abbrev pub says_built : Result Built F.Fault → AnswerAt Report
says_built built = mapped (λ b. (b.start, b.end, b.numbers, b.passes)) (says_at built)

-- l: the tape's numbers
abbrev pub finished : (passes : ℕ) (l : List ℤ) (image : List ℕ) (list : List ℤ) → AnswerAt Trying → AnswerAt Report × List ℕ × List ℤ
finished passes l image list (Fine t) =
    (Fine (t.page.pen.start, t.page.pen.end, length l, passes), t.page.image, onto list l)
finished passes l image list (Fault n at) = (Fault n at, image, list)

-- the call
unfoldable pub finish_of : (tape nodes : List ℕ) (numbers : List (Option ℤ)) → (passes initial : ℕ) (image : List ℕ) (list : List ℤ)
    → AnswerAt Report × List ℕ × List ℤ
finish_of tape nodes numbers passes initial image list =
    finished passes (gathered tape numbers) image list (write_of tape nodes numbers initial builder (length image))
