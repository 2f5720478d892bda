-- The public call: its arguments, what it answers, and what it leaves in each buffer. Assumes nothing: these are definitions.
use Rattle.std.specs.Prelude.{ℕ, Bool, ◌&&◌, List, eqb, leb, ℤ, pos, length, replicate}
use Rattle.refusals.specs.Answer.{pick}
use Rattle.refusals.specs.AnswerAt.{AnswerAt, Fine, Fault}
use Rattle.refusals.specs.Table.{argument}
use Rattle.pen.specs.Pens.{size}
use Rattle.edges.specs.Edges.{max_nodes}
use Rattle.form.specs.Form.{max_tape}
use Rattle.walk.specs.Walk.{origin}
use Rattle.walk.specs.Numbers.{filled}
use Rattle.finish.specs.Finish.{Report}
use Rattle.builds.specs.Build.{Build, built}

-- ---- arguments

-- how long the work memory has to be: a place for each offset of a tape
abbrev pub work_places : ℕ
work_places = max_tape

-- "tape [..] at most 65,536 long, initial place [..] at most 65,536"; the image has 65,536 bytes, the list 1,024 places
unfoldable pub is_allowed : (tape initial image list work : ℕ) → Bool
is_allowed tape initial image list work =
    leb tape max_tape && leb initial size && eqb image size && eqb list max_nodes && eqb work work_places

-- ---- the answer

-- of a build
abbrev pub report : Build → Report
report b = (b.start, b.end, length b.numbers, b.passes)

-- ---- the buffers

-- the image, the number list and the work memory
pub record Memory : Type 0 where
  pub image : List ℕ
  pub list : List ℤ
  pub work : List ℕ

abbrev pub memory : List ℕ → List ℤ → List ℕ → Memory
memory image list work = record { image = image; list = list; work = work }

-- what is answered and left. "A build refused for any number but 1 leaves its number list and work memory zero"; "A finished build
-- leaves the list's numbers, zero behind them, zero work memory and an image zero outside the range"
abbrev pub left : Memory → AnswerAt Build → AnswerAt Report × Memory
left m (Fine b) = (Fine (report b), memory b.image (filled max_nodes (pos 0) b.numbers) (replicate work_places 0))
left m (Fault n at) = (Fault n at, memory m.image (replicate max_nodes (pos 0)) (replicate work_places 0))

-- the call: an argument outside its range is a 1, "tested first"; "for 1, unchanged"
unfoldable pub build_of : List ℕ → ℕ → Memory → AnswerAt Report × Memory
build_of tape initial m =
    pick (is_allowed (length tape) initial (length m.image) (length m.list) (length m.work))
    (left m (built tape (origin initial)))
    (Fault argument 0, m)
