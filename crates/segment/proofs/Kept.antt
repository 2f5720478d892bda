-- What a build that begins with `new` may rely on: a pen that a call gives is sound, and an image keeps its length.
-- Assumes nothing.
use mathlib.Core.Bool.{Bool, true, false}
use mathlib.Core.Path.{◌≡◌, refl, sym, ap, ◌∙◌, subst}
use mathlib.Core.List.{List}
use Prim.Native.Nat.{ℕ, ◌+◌, ◌≤◌}
use native.Mathlib.Omega.{arith}
use lib.Dec.{leb}
use lib.ListN.{length, length-replicate}
use borrow.Author.Tests.{leb-true}
use Rattle.refusals.specs.Answer.{Answer, Done, Refused, if_done}
use Rattle.refusals.specs.Table.{argument, outside}
use Rattle.refusals.specs.Memory.{over}
use Rattle.refusals.proofs.Memory.{length_over}
use Rattle.refusals.proofs.Pick.{done_passed, done_value}
use Rattle.pen.specs.declared.Pen.{Pen}
use Rattle.pen.specs.Pens.{size, sound, sound_over, of_pen, of_both, begun, fits}
use Rattle.pen.proofs.Laws.{Sound, sound_has, sound_is, sound_over_has, fits_has}
use Rattle.pen.proofs.Kept.{begun_sound}
use Rattle.segment.specs.Segment.{reset, set_pc, widened, ground, emit, image_after}

-- ---- pens

widened_sound : (p : Pen) (n : ℕ) → Sound p → p.place + n ≤ 65536 → sound (widened p n) ≡ true
unfolding widened
widened_sound p n s h = go p.emitted refl
  where
    go : (t : Bool) → p.emitted ≡ t → sound (widened p n) ≡ true
    go true e = sound_is _ (record { place = h; initial = s.initial; target = s.target; start = simp e (omega (arith, s.start)); end = simp e (omega (arith, s.end)) })
    go false e = sound_is _ (record { place = h; initial = s.initial; target = s.target; start = simp e (omega arith); end = simp e h })

-- a pen that a call gives is sound
pub reset_sound : (p : Pen) {q : Pen} → reset p ≡ Done q → sound q ≡ true
unfolding reset of_pen
reset_sound p e =
    let a = done_passed (sound p) (Done (begun p.initial p.target)) argument e in
    let s = sound_has p a.0 in
    subst (λ (p : Pen). sound p ≡ true) (done_value a.1) (begun_sound _ _ s.initial s.target)

pub set_pc_sound : (p : Pen) (at : ℕ) {q : Pen} → set_pc p at ≡ Done q → sound q ≡ true
unfolding set_pc of_pen
set_pc_sound p at e =
    let a = done_passed (sound p) _ argument e in
    let b = done_passed (leb at size) _ argument a.1 in
    let s = sound_has p a.0 in
    subst (λ (p : Pen). sound p ≡ true) (done_value b.1)
    (sound_is _ (record { place = leb-true _ _ b.0; initial = s.initial; target = s.target; start = s.start; end = s.end }))

-- and is there
pub set_pc_place : (p : Pen) (at : ℕ) {q : Pen} → set_pc p at ≡ Done q → q.place ≡ at
unfolding set_pc of_pen
set_pc_place p at e =
    let a = done_passed (sound p) _ argument e in
    sym (ap (λ (x : Pen). x.place) (done_value (done_passed (leb at size) _ argument a.1).1))

-- what an accepted emit had, and what it gives
pub emit_has : (p : Pen) (image bytes : List ℕ) {q : Pen} → emit p image bytes ≡ Done q
    → (length image ≡ 65536) × Sound p × (p.place + length bytes ≤ 65536) × (widened p (length bytes) ≡ q)
unfolding emit of_both
emit_has p image bytes e =
    let a = done_passed (sound_over p (length image)) _ argument e in
    let b = done_passed (fits p (length bytes)) (Done (widened p (length bytes))) outside a.1 in
    let s = sound_over_has p (length image) a.0 in
    (s.0, s.1, (fits_has p (length bytes) b.0).1, done_value b.1)

pub emit_sound : (p : Pen) (image bytes : List ℕ) {q : Pen} → emit p image bytes ≡ Done q → sound q ≡ true
emit_sound p image bytes e =
    let a = emit_has p image bytes e in
    subst (λ (p : Pen). sound p ≡ true) a.3 (widened_sound p (length bytes) a.1 a.2)

-- ---- images

length_ground : (t : Bool) (image : List ℕ) → length (ground t image) ≡ length image
unfolding ground
length_ground true image = refl
length_ground false image = length-replicate (length image) 0

-- an emit leaves an image of the same length, refused or not
pub emit_length : (p : Pen) (image bytes : List ℕ) → length (image_after p image bytes) ≡ length image
unfolding image_after
emit_length p image bytes = go (emit p image bytes) refl
  where
    go : (a : Answer Pen) → emit p image bytes ≡ a → length (if_done a (over (ground p.emitted image) p.place bytes) image) ≡ length image
    go (Refused n) e = refl
    go (Done q) e =
        let a = emit_has p image bytes e in
        let as_long = length_ground p.emitted image in
        length_over (ground p.emitted image) p.place bytes (omega arith) ∙ as_long
