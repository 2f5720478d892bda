-- What private functions promise each other on the way, record by record. No public promise cites these. Assumes nothing: these are
-- definitions.
use Rattle.std.specs.Prelude.{ℕ, ◌+◌, List, [], ◌∷◌, eqb, ℤ, take, Option, Result}
use Rattle.refusals.specs.Answer.{Answer, pick, mapped}
use Rattle.refusals.specs.AnswerAt as At
use Rattle.refusals.specs.AnswerAt.{AnswerAt, Fine}
use Rattle.refusals.specs.Says.{says, says_at}
use Rattle.refusals.specs.declared.Refusal.{Refusal}
use Rattle.refusals.specs.declared.Fault.{Fault}
use Rattle.opcodes.specs.declared.Code.{Code}
use Rattle.pen.specs.declared.Pen.{Pen}
use Rattle.tape.specs.Kinds.{set_place}
use Rattle.form.specs.Form.{declares}
use Rattle.form.specs.Statements.{is_inner, statement_of}
use Rattle.evaluator.specs.Expression.{Value}
use Rattle.walk.specs.declared.Walk.{Walk}
use Rattle.walk.specs.Walk.{walk, moved_to}
use Rattle.walk.specs.Values.{number_of}
use Rattle.compares.specs.declared.Compares.{Compares}
use Rattle.tries.specs.declared.Stepped.{Stepped}
use Rattle.tries.specs.Tries.{Page, page, Trying, trying, tried}

-- ---- how bytes are handed over

-- the bytes of a code
abbrev pub bytes_in : Code → List ℕ
bytes_in c = take c.len (c.b0 ∷ c.b1 ∷ c.b2 ∷ [])

-- ---- what is written

-- a pen that a call gives, over the image that it leaves; or its refusal
abbrev pub says_drawn : Result Pen Refusal → List ℕ → Answer Page
says_drawn drawn image = mapped (λ pen. page pen image) (says drawn)

-- ---- behind a record

-- the place behind a record of this kind that wrote so many bytes
unfoldable pub place_behind : ℕ → Value → ℕ → ℕ → ℕ
place_behind k v place n = pick (eqb k set_place) (moved_to (number_of v) place) (place + n)

unfoldable pub walk_behind : Walk → ℕ → Value → ℕ → Walk
walk_behind w k v n = walk (place_behind k v w.place n) (pick (declares k) (w.names + 1) w.names)

-- what a step gives, over the image that it leaves; or its refusal
abbrev pub says_stepped : Result Stepped Fault → List ℕ → AnswerAt Trying
says_stepped stepped image = At.mapped (λ s. trying s.walk (page s.pen image)) (says_at stepped)

-- a record: those of expressions are passed over
unfoldable pub tried_over : ((ℕ → Option ℤ) → ℤ → ℕ → Value) → Compares → (ℕ → Option ℤ) → Trying → ℕ → List ℕ → AnswerAt Trying
tried_over reads c numbers t at r = pick (is_inner r) (Fine t) (tried reads c numbers t (statement_of at r))
