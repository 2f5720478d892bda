-- What was written is all that an image holds: outside the pen's range it is zero, from the blank page to the last statement.
-- Assumes nothing.
use Rattle.std.specs.Prelude.{Option}
use mathlib.Core.Bool.{Bool, true, false}
use mathlib.Core.List.{List, [], ◌∷◌}
use mathlib.Core.Path.{◌≡◌, refl, ◌∙◌, subst}
use Prim.Native.Nat.{ℕ, ◌+◌, ◌<◌, ◌≤◌}
use native.Mathlib.Omega.{arith}
use lib.Dec.{leb}
use lib.IntN.{ℤ}
use lib.ListN.{length, get_or, replicate, length-replicate}
use Rattle.refusals.specs.Answer as A
use Rattle.refusals.specs.Answer.{Answer, Done, Refused}
use Rattle.refusals.specs.AnswerAt.{Fine}
use Rattle.refusals.specs.Table.{argument}
use Rattle.refusals.specs.Memory.{over}
use Rattle.refusals.proofs.Memory.{get_or_over, over_before, get_or_zeros}
use Rattle.refusals.proofs.Never.{never}
use Rattle.refusals.proofs.Pick.{done_passed, done_value}
use Rattle.pen.specs.declared.Pen.{Pen}
use Rattle.pen.specs.Pens.{size, sound, begun, of_pen}
use Rattle.segment.specs.Segment.{set_pc, widened, ground, emit, image_after}
use Rattle.segment.proofs.Kept.{emit_has}
use Rattle.form.specs.Statements.{Statement}
use Rattle.evaluator.specs.Expression.{Value}
use Rattle.walk.specs.Walk.{Origin}
use Rattle.compares.specs.declared.Compares.{Compares}
use Rattle.tries.specs.Tries.{Page, page, blank, drawn, Trying, tries}
use Rattle.tries.proofs.Keeping.{kept_tries}

-- its image is 0 before the range and behind it, and all of it where nothing was emitted
pub record Clean (p : Page) : Type 0 where
  pub before : (a : ℕ) → a < p.pen.start → get_or p.image a 0 ≡ 0
  pub behind : (a : ℕ) → p.pen.end ≤ a → get_or p.image a 0 ≡ 0
  pub nothing : p.pen.emitted ≡ false → (a : ℕ) → get_or p.image a 0 ≡ 0

pub clean_blank : (o : Origin) → Clean (blank o)
unfolding begun
clean_blank o = record { before = λ a l. get_or_zeros size a; behind = λ a l. get_or_zeros size a; nothing = λ e a. get_or_zeros size a }

-- ---- bytes at a place

-- the pen goes to a place
clean_set : (p : Pen) (image : List ℕ) (at : ℕ) {q : Pen} → Clean (page p image) → set_pc p at ≡ Done q → Clean (page q image)
unfolding set_pc of_pen
clean_set p image at h e =
    let a = done_passed (sound p) _ argument e in
    let b = done_passed (leb at size) _ argument a.1 in
    subst (λ (x : Pen). Clean (page x image)) (done_value b.1) (record { before = h.before; behind = h.behind; nothing = h.nothing })

-- it emits bytes there
clean_over : (p : Pen) (image bytes : List ℕ) → length image ≡ 65536 → p.place + length bytes ≤ 65536 → Clean (page p image)
    → Clean (page (widened p (length bytes)) (over (ground p.emitted image) p.place bytes))
unfolding widened ground
clean_over p image bytes long room h = go p.emitted refl
  where
    go : (t : Bool) → p.emitted ≡ t → Clean (page (widened p (length bytes)) (over (ground p.emitted image) p.place bytes))
    go true e = rw e (record {
      before = λ a l. over_before image p.place bytes (omega arith) a (omega arith) ∙ h.before a (omega arith);
      behind = λ a l. get_or_over image p.place bytes (omega arith) a (omega arith) ∙ h.behind a (omega arith);
      nothing = λ f. never (cc);
    })
    go false e =
        let m : List ℕ = replicate (length image) 0 in
        let as_long : length m ≡ length image = length-replicate (length image) 0 in
        rw e (record {
          before = λ a l. over_before m p.place bytes (omega arith) a l ∙ get_or_zeros (length image) a;
          behind = λ a l. get_or_over m p.place bytes (omega arith) a l ∙ get_or_zeros (length image) a;
          nothing = λ f. never (cc);
        })

clean_emit : (p : Pen) (image bytes : List ℕ) {q : Pen} → Clean (page p image) → emit p image bytes ≡ Done q
    → Clean (page q (image_after p image bytes))
unfolding image_after
clean_emit p image bytes h e =
    let a = emit_has p image bytes e in
    rw e
    (subst (λ (x : Pen). Clean (page x (over (ground p.emitted image) p.place bytes))) a.3
    (clean_over p image bytes a.0 a.2 h))

pub clean_drawn : (p : Page) (place : ℕ) (bs : List ℕ) {q : Page} → Clean p → drawn p place bs ≡ Done q → Clean q
clean_drawn p place [] h e = subst Clean (done_value e) h
clean_drawn p place (b ∷ bs) {q} h e = moved (set_pc p.pen place) refl e
  where
    written : (pen : Pen) → Clean (page pen p.image) → (a : Answer Pen) → emit pen p.image (b ∷ bs) ≡ a
        → A.mapped (λ r. page r (image_after pen p.image (b ∷ bs))) a ≡ Done q → Clean q
    written pen c (Done r) is e = subst Clean (done_value e) (clean_emit pen p.image (b ∷ bs) c is)
    written pen c (Refused n) is e = never (cc)

    moved : (a : Answer Pen) → set_pc p.pen place ≡ a
        → A.and_then a (λ pen. A.mapped (λ r. page r (image_after pen p.image (b ∷ bs))) (emit pen p.image (b ∷ bs))) ≡ Done q
        → Clean q
    moved (Done pen) is e = written pen (clean_set p.pen p.image place h is) _ refl e
    moved (Refused n) is e = never (cc)

-- ---- statement by statement

pub clean_tries : (reads : (ℕ → Option ℤ) → ℤ → ℕ → Value) (c : Compares) (numbers : ℕ → Option ℤ) (t : Trying) (xs : List Statement)
    {u : Trying} → Clean t.page → tries reads c numbers t xs ≡ Fine u → Clean u.page
clean_tries reads c numbers = kept_tries Clean (λ p q place bs. clean_drawn p place bs) reads c numbers
