-- The last walk: each statement is tried, and what it writes is drawn by the segment's pen. Assumes nothing: these are definitions.
use Rattle.std.specs.Prelude.{ℕ, suc, List, [], ◌∷◌, ℤ, replicate, Option}
use Rattle.refusals.specs.Answer as A
use Rattle.refusals.specs.Answer.{Answer, Done}
use Rattle.refusals.specs.AnswerAt.{AnswerAt, Fine, mapped, and_then}
use Rattle.pen.specs.declared.Pen.{Pen}
use Rattle.pen.specs.Pens.{size, begun}
use Rattle.segment.specs.Segment.{set_pc, emit, image_after}
use Rattle.form.specs.Statements.{Statement, placed}
use Rattle.evaluator.specs.Expression.{Value}
use Rattle.walk.specs.declared.Walk.{Walk}
use Rattle.walk.specs.Walk.{Origin, begin, here}
use Rattle.walk.specs.Values.{value_at, step_at}
use Rattle.compares.specs.declared.Compares.{Compares}
use Rattle.tries.specs.Try.{try_of}

-- ---- what is written

-- a pen over its image
pub record Page : Type 0 where
  pub pen : Pen
  pub image : List ℕ

abbrev pub page : Pen → List ℕ → Page
page pen image = record { pen = pen; image = image }

-- nothing is written
abbrev pub blank : Origin → Page
blank o = page (begun o.initial o.initial) (replicate size 0)

-- bytes at a place: the pen goes there and emits them, which is refused (15) where there is no room. A statement without bytes does
-- not count
abbrev pub drawn : Page → ℕ → List ℕ → Answer Page
drawn p place [] = Done p
drawn p place (b ∷ bs) =
    A.and_then (set_pc p.pen place)
    (λ pen. A.mapped (λ q. page q (image_after pen p.image (b ∷ bs))) (emit pen p.image (b ∷ bs)))

-- ---- statement by statement

-- the walk, and what is written so far
pub record Trying : Type 0 where
  pub walk : Walk
  pub page : Page

abbrev pub trying : Walk → Page → Trying
trying w p = record { walk = w; page = p }

-- before the first
abbrev pub start : Origin → Trying
start o = trying (begin o) (blank o)

module _ (reads : (ℕ → Option ℤ) → ℤ → ℕ → Value) (c : Compares) (numbers : ℕ → Option ℤ) where
  -- a try is one function of the numbers, the walk and the statement
  unfoldable pub try_at : Walk → Statement → AnswerAt (List ℕ)
  try_at w x = try_of c (numbers (suc w.names)) (here w) x.at x.says (value_at reads numbers w x)

  -- and behind it the walk goes on as in a pass
  unfoldable pub tried : Trying → Statement → AnswerAt Trying
  tried t x =
      and_then (try_at t.walk x)
      (λ bs. mapped (λ p. trying (step_at reads numbers t.walk x) p) (placed x.at (drawn t.page t.walk.place bs)))

  -- "in tape order": the first refusal, or what all have written
  abbrev pub tries : Trying → List Statement → AnswerAt Trying
  tries t [] = Fine t
  tries t (x ∷ xs) = and_then (tried t x) (λ u. tries u xs)
