-- The verdict behind form, names and the list's length. Document 01: the checker "tries records the same way, with 17, for a constant's
-- number too, in place of 13, then compares start, length and bytes (18 at 0)". Assumes nothing: these are definitions.
use Rattle.std.specs.Prelude.{ℕ, ◌-◌, Bool, ◌&&◌, List, eqb, ℤ, take, drop, Option}
use Rattle.refusals.specs.Answer.{pick}
use Rattle.refusals.specs.AnswerAt.{AnswerAt, Fine, Fault, and_then}
use Rattle.refusals.specs.Table.{bytes_differ}
use Rattle.pen.specs.Pens.{size}
use Rattle.walk.specs.Values.{same}
use Rattle.compares.specs.Compared.{checker}
use Rattle.tries.specs.Tries.{Trying}
use Rattle.tries.specs.Write.{write_of}

-- ---- what was written, judged

-- the bytes of an image from a start to an end
abbrev pub covered : (start end : ℕ) → List ℕ → List ℕ
covered start end image = take (end - start) (drop start image)

-- what the tries wrote has this start and these bytes
unfoldable pub is_written : (start : ℕ) (bytes : List ℕ) → Trying → Bool
is_written start bytes t =
    let pen = t.page.pen in eqb start pen.start && same eqb bytes (covered pen.start pen.end t.page.image)

-- "then compares start, length and bytes"
unfoldable pub judged : ℕ → List ℕ → Trying → AnswerAt (Unit {0})
judged start bytes t = pick (is_written start bytes t) (Fine tt) (Fault bytes_differ 0)

-- ---- the call

-- the tries of a tape whose names have been resolved, with numbers by node, and what they wrote
unfoldable pub verdict_of : (tape nodes : List ℕ) → List (Option ℤ) → (initial start : ℕ) (bytes : List ℕ) → AnswerAt (Unit {0})
verdict_of tape nodes numbers initial start bytes =
    and_then (write_of tape nodes numbers initial checker size) (judged start bytes)
