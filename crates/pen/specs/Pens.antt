-- Document 01's "Segment": what a pen over a lent image is, and what is read of it.
-- Assumes nothing: these are definitions.
use Rattle.std.specs.Prelude.{Bool, false, ◌&&◌, ℕ, ◌+◌, ◌-◌, List, [], eqb, leb, ℤ, pos, ◌-ℤ◌, length, take, drop}
use Rattle.refusals.specs.Answer.{Answer, Done, Refused, pick}
use Rattle.refusals.specs.Table.{argument}
use Rattle.pen.specs.declared.Pen.{Pen}

-- ---- what may be handed in

-- "a lent image of 65,536 bytes"; places go up to the one behind its last byte
abbrev pub size : ℕ
size = 65536

-- every place of the pen is at most 65,536, and its range runs forward
unfoldable pub sound : Pen → Bool
sound p = leb p.place size && leb p.initial size && leb p.target size && leb p.start p.end && leb p.end size

-- "A table, map or pen with a bad index [..] is a 1"
unfoldable pub of_pen : {A : Type 0} → Pen → Answer A → Answer A
of_pen p a = pick (sound p) a (Refused argument)

-- a sound pen over an image of n bytes, which has to be the one length there is
unfoldable pub sound_over : Pen → ℕ → Bool
sound_over p n = eqb n size && sound p

-- an "argument, index or buffer length [..] outside its stated range; tested first": 1
unfoldable pub of_both : {A : Type 0} → Pen → List ℕ → Answer A → Answer A
of_both p image a = pick (sound_over p (length image)) a (Refused argument)

-- ---- places

-- "the initial place, an empty range there and "nothing emitted""
unfoldable pub begun : ℕ → ℕ → Pen
begun initial target = record { place = initial; initial = initial; target = target; start = initial; end = initial; emitted = false }

-- a pen at its initial place
unfoldable pub new : ℕ → ℕ → Answer Pen
new initial target = pick (leb initial size && leb target size) (Done (begun initial target)) (Refused argument)

-- the place
unfoldable pub pc : Pen → Answer ℕ
pc p = of_pen p (Done p.place)

-- "The target place is place + target - initial as a signed number"
unfoldable pub target_pc : Pen → Answer ℤ
target_pc p = of_pen p (Done (pos (p.place + p.target) -ℤ pos p.initial))

-- what the target place is ahead of the place
unfoldable pub target_offset : Pen → Answer ℤ
target_offset p = of_pen p (Done (pos p.target -ℤ pos p.initial))

-- ---- the range

-- where the range begins and ends
unfoldable pub range : Pen → Answer (ℕ × ℕ)
range p = of_pen p (Done (p.start, p.end))

-- the bytes of the range; none where nothing was emitted
unfoldable pub range_data : Pen → List ℕ → Answer (List ℕ)
range_data p image = of_both p image (Done (pick p.emitted (take (p.end - p.start) (drop p.start image)) []))

-- the part that is handed out: the empty one at a refusal
abbrev pub part_of : Answer (List ℕ) → List ℕ
part_of (Done part) = part
part_of (Refused n) = []

-- ---- room

-- "Emit refuses (15) if the start is above 65,535 or the end above 65,536"
unfoldable pub fits : Pen → ℕ → Bool
fits p n = leb p.place 65535 && leb (p.place + n) size
