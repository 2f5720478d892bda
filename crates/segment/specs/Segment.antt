-- Document 01's "Segment": what a call makes of a pen and of a lent image.
-- Assumes nothing: these are definitions.
use Rattle.std.specs.Prelude.{Bool, true, ℕ, ◌+◌, min, max, List, leb, length, replicate}
use Rattle.refusals.specs.Answer.{Answer, Done, Refused, pick, if_done}
use Rattle.refusals.specs.Table.{argument, outside}
use Rattle.refusals.specs.Memory.{over}
use Rattle.pen.specs.declared.Pen.{Pen}
use Rattle.pen.specs.Pens.{size, of_pen, of_both, begun, fits}

-- ---- places

-- "Reset restores the initial place, an empty range there and "nothing emitted""
unfoldable pub reset : Pen → Answer Pen
reset p = of_pen p (Done (begun p.initial p.target))

-- "Setting the place leaves the range"
unfoldable pub set_pc : Pen → ℕ → Answer Pen
set_pc p at =
    of_pen p
    (pick (leb at size)
    (Done (record { place = at; initial = p.initial; target = p.target; start = p.start; end = p.end; emitted = p.emitted }))
    (Refused argument))

-- ---- writing

-- the pen behind n bytes: the first emit "sets the range to start..end. Later ones widen it to the least start and greatest
-- end; an empty write counts"
unfoldable pub widened : Pen → ℕ → Pen
widened p n =
    record {
      place = p.place + n;
      initial = p.initial;
      target = p.target;
      start = pick p.emitted (min p.start p.place) p.place;
      end = pick p.emitted (max p.end (p.place + n)) (p.place + n);
      emitted = true;
    }

-- the pen after an emit
unfoldable pub emit : Pen → List ℕ → List ℕ → Answer Pen
emit p image bytes = of_both p image (pick (fits p (length bytes)) (Done (widened p (length bytes))) (Refused outside))

-- "The first accepted emit zeroes the image": what the bytes are laid over
unfoldable pub ground : Bool → List ℕ → List ℕ
ground emitted image = pick emitted image (replicate (length image) 0)

-- the whole image after an emit: the bytes over it at the place; a refusal "changes nothing"
unfoldable pub image_after : Pen → List ℕ → List ℕ → List ℕ
image_after p image bytes = if_done (emit p image bytes) (over (ground p.emitted image) p.place bytes) image
