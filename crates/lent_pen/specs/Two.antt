-- Two runs of bytes in one image, each at its place, by one pen. Assumes nothing: these are definitions.
use Rattle.std.specs.Prelude.{ℕ, List, leb}
use Rattle.refusals.specs.Answer.{Answer, Done, Refused, pick, mapped, and_then}
use Rattle.refusals.specs.Table.{argument}
use Rattle.pen.specs.declared.Pen.{Pen}
use Rattle.pen.specs.Pens.{size, new, range}
use Rattle.segment.specs.Segment.{set_pc, emit, image_after}

-- a pen and its image, after an emit
abbrev pub emitted : Pen × List ℕ → List ℕ → Answer (Pen × List ℕ)
emitted before bytes = mapped (λ p. (p, image_after before.0 before.1 bytes)) (emit before.0 before.1 bytes)

-- after the place is set
abbrev pub moved : Pen × List ℕ → ℕ → Answer (Pen × List ℕ)
moved before at = mapped (λ p. (p, before.1)) (set_pc before.0 at)

-- a pen begins at the initial place and emits the first bytes, is set to the other place and emits the second: the pen and the image
-- afterwards, or the first refusal; an argument that is out of range is "tested first"
unfoldable pub two : ℕ → List ℕ → List ℕ → ℕ → List ℕ → Answer (Pen × List ℕ)
two initial image first place second =
    pick (leb place size)
    (and_then (new initial initial) (λ p.
    and_then (emitted (p, image) first) (λ half.
    and_then (moved half place) (λ there.
    emitted there second))))
    (Refused argument)

-- the range that holds both
unfoldable pub range_of_two : ℕ → List ℕ → List ℕ → ℕ → List ℕ → Answer (ℕ × ℕ)
range_of_two initial image first place second = and_then (two initial image first place second) (λ after. range after.0)

-- the image afterwards: with both in it, or, where one of them is refused, as it was
abbrev pub last_of : List ℕ → Answer (Pen × List ℕ) → List ℕ
last_of image (Done after) = after.1
last_of image (Refused n) = image

unfoldable pub image_of_two : ℕ → List ℕ → List ℕ → ℕ → List ℕ → List ℕ
image_of_two initial image first place second = last_of image (two initial image first place second)
