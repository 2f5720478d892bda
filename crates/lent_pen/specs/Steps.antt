-- What a lent pen and its image are after a call, done or refused; private functions are stated through it, no public promise is.
-- Assumes nothing: these are definitions.
use Rattle.std.specs.Prelude.{ℕ, List}
use Rattle.pen.specs.declared.Pen.{Pen}
use Rattle.pen.specs.Pens.{begun}
use Rattle.segment.specs.Segment.{set_pc, emit, image_after}
use Rattle.segment.specs.Says.{left}

-- after an emit
abbrev pub emit_on : Pen × List ℕ → List ℕ → Pen × List ℕ
emit_on d bytes = ((left d.0 (emit d.0 d.1 bytes)).0, image_after d.0 d.1 bytes)

-- after the place is set
abbrev pub set_on : Pen × List ℕ → ℕ → Pen × List ℕ
set_on d at = ((left d.0 (set_pc d.0 at)).0, d.1)

-- a new pen after an emit, a set and an emit
unfoldable pub lent_to : ℕ → List ℕ → List ℕ → ℕ → List ℕ → Pen × List ℕ
lent_to initial image first place second = emit_on (set_on (emit_on (begun initial initial, image) first) place) second
