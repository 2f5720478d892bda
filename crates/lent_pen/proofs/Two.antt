-- What a pen that is lent to emit, set_pc and emit leaves is what `two` says, wherever the tests before it hold; where one fails, it is
-- the refusal. Assumes nothing.
use mathlib.Core.Bool.{Bool, true, false, ◌&&◌, not-eq-not}
use mathlib.Core.Path.{◌≡◌, refl, sym, ap, ◌∙◌}
use mathlib.Core.List.{List}
use Prim.Native.Nat.{ℕ, ◌+◌, ◌≤◌}
use native.Mathlib.Omega.{arith}
use lib.Dec.{leb}
use lib.ListN.{length}
use borrow.Author.Tests.{le-leb, leb-true, eq-eqb}
use Rattle.refusals.specs.Answer.{Answer, Done, Refused, and_then}
use Rattle.refusals.specs.Table.{argument, outside}
use Rattle.refusals.proofs.Pick.{at_false}
use Rattle.refusals.proofs.Never.{never}
use Rattle.pen.specs.declared.Pen.{Pen}
use Rattle.pen.specs.Pens.{size, sound, sound_over, of_pen, of_both, begun, new, fits, range}
use Rattle.segment.specs.Segment.{set_pc, widened, emit, image_after}
use Rattle.lent_pen.specs.Two.{two, range_of_two, last_of, image_of_two}
use Rattle.lent_pen.specs.Steps.{lent_to}
use Rattle.pen.proofs.Laws.{sound_has, sound_is, sound_over_has, new_is}
use Rattle.segment.proofs.Kept.{set_pc_sound, emit_sound, emit_length}

-- ---- one call

module _ (p : Pen) (image bytes : List ℕ) where
  emit_is : sound_over p (length image) ≡ true → fits p (length bytes) ≡ true → emit p image bytes ≡ Done (widened p (length bytes))
  unfolding emit of_both
  emit_is h k = simp (h, k)

  emit_bad : sound_over p (length image) ≡ false → emit p image bytes ≡ Refused argument
  unfolding emit of_both
  emit_bad h = simp h

  emit_far : sound_over p (length image) ≡ true → fits p (length bytes) ≡ false → emit p image bytes ≡ Refused outside
  unfolding emit of_both
  emit_far h k = simp (h, k)

set_is : (p : Pen) (at : ℕ) → sound p ≡ true → at ≤ 65536
    → set_pc p at ≡ Done (record {
      place = at;
      initial = p.initial;
      target = p.target;
      start = p.start;
      end = p.end;
      emitted = p.emitted;
    })
unfolding set_pc of_pen
set_is p at h k = simp (h, le-leb _ _ k)

over_is : (p : Pen) (n : ℕ) → sound p ≡ true → n ≡ 65536 → sound_over p n ≡ true
unfolding sound_over
over_is p n h k = simp (h, eq-eqb _ _ k)

-- a new pen is sound where its place is there
is_sound : (at : ℕ) → at ≤ 65536 → sound (begun at at) ≡ true
unfolding begun
is_sound at h = sound_is _ (record { place = h; initial = h; target = h; start = omega arith; end = h })

here : (at : ℕ) → sound (begun at at) ≡ true → at ≤ 65536
unfolding begun
here at h = (sound_has _ h).place

not_here : (at : ℕ) → sound (begun at at) ≡ false → leb at size ≡ false
unfolding begun
not_here at h = (not-eq-not {b = false}).0 (λ e. let s = is_sound at (leb-true _ _ e) in never (cc))

begins : (i : ℕ) → i ≤ 65536 → new i i ≡ Done (begun i i)
begins i h = sym (new_is i i h h refl)

new_none : (i : ℕ) → leb i size ≡ false → new i i ≡ Refused argument
unfolding new
new_none i h = simp h

-- room is a matter of the place alone
fits_at : (p : Pen) (at n : ℕ) → p.place ≡ at → fits p n ≡ fits (begun at at) n
unfolding fits begun
fits_at p at n e = ap (λ (x : ℕ). leb x 65535 && leb (x + n) size) e

-- what a test tells of a pen, it tells of the same pen by another name
pub told_over : (n : ℕ) {t : Bool} {p q : Pen} → t ≡ sound_over p n → p ≡ q → t ≡ sound_over q n
told_over n h e = h ∙ ap (λ (p : Pen). sound_over p n) e

pub told_room : (n : ℕ) {t : Bool} {p q : Pen} → t ≡ fits p n → p ≡ q → t ≡ fits q n
told_room n h e = h ∙ ap (λ (p : Pen). fits p n) e

-- ---- the calls, one after the other

module _ (i at : ℕ) (image first second : List ℕ) where
  -- what is in the image after the first
  abbrev half : List ℕ
  half = image_after (begun i i) image first

  -- each way through them
  off : leb at size ≡ false → Refused argument ≡ two i image first at second
  unfolding two
  off h = at_false _ _ h

  none : {n : ℕ} → leb at size ≡ true → new i i ≡ Refused n → Refused n ≡ two i image first at second
  unfolding two
  none h k = simp (h, k)

  module _ (h : leb at size ≡ true) (k : new i i ≡ Done (begun i i)) where
    early : {n : ℕ} → emit (begun i i) image first ≡ Refused n → Refused n ≡ two i image first at second
    unfolding two
    early e = simp (h, k, e)

    module _ {q r : Pen} (e : emit (begun i i) image first ≡ Done q) (f : set_pc q at ≡ Done r) where
      late : {n : ℕ} → emit r half second ≡ Refused n → Refused n ≡ two i image first at second
      unfolding two
      late g = simp (h, k, e, f, g)

      through : {s : Pen} → emit r half second ≡ Done s → Done (lent_to i image first at second) ≡ two i image first at second
      unfolding two lent_to
      through g = simp (h, k, e, f, g)

  -- ---- by the tests that the code makes

  pub two_place : sound (begun at at) ≡ false → Refused argument ≡ two i image first at second
  two_place h = off (not_here at h)

  pub two_bad : sound_over (begun i i) (length image) ≡ false → Refused argument ≡ two i image first at second
  two_bad h = go (leb at size) refl (leb i size) refl
    where
      go : (t : Bool) → leb at size ≡ t → (u : Bool) → leb i size ≡ u → Refused argument ≡ two i image first at second
      go false e u f = off e
      go true e false f = none e (new_none i f)
      go true e true f = early e (begins i (leb-true _ _ f)) (emit_bad (begun i i) image first h)

  module _ (h : sound_over (begun i i) (length image) ≡ true) (k : sound (begun at at) ≡ true) where
    is_there : leb at size ≡ true
    is_there = le-leb _ _ (here at k)

    begins_here : new i i ≡ Done (begun i i)
    begins_here = begins i (here i (sound_is _ (sound_over_has _ _ h).1))

    pub two_first : fits (begun i i) (length first) ≡ false → Refused outside ≡ two i image first at second
    two_first f = early is_there begins_here (emit_far (begun i i) image first h f)

    module _ (f : fits (begun i i) (length first) ≡ true) where
      -- the pen after the first, and at the second's place
      abbrev after : Pen
      after = widened (begun i i) (length first)

      abbrev there : Pen
      there =
          record {
            place = at;
            initial = after.initial;
            target = after.target;
            start = after.start;
            end = after.end;
            emitted = after.emitted;
          }

      first_done : emit (begun i i) image first ≡ Done after
      first_done = emit_is (begun i i) image first h f

      set_done : set_pc after at ≡ Done there
      set_done = set_is after at (emit_sound (begun i i) image first first_done) (here at k)

      still_over : sound_over there (length half) ≡ true
      still_over =
          over_is there (length half) (set_pc_sound after at set_done) (emit_length (begun i i) image first ∙ (sound_over_has _ _ h).0)

      pub two_second : fits (begun at at) (length second) ≡ false → Refused outside ≡ two i image first at second
      two_second g =
          late is_there begins_here first_done set_done
          (emit_far there half second still_over (fits_at there at (length second) refl ∙ g))

      pub two_done : fits (begun at at) (length second) ≡ true → Done (lent_to i image first at second) ≡ two i image first at second
      two_done g =
          through is_there begins_here first_done set_done
          (emit_is there half second still_over (fits_at there at (length second) refl ∙ g))

  -- ---- what is answered, and the image

  pub refusal : {n : ℕ} → Refused n ≡ two i image first at second
      → (Refused n ≡ range_of_two i image first at second) × (image ≡ image_of_two i image first at second)
  unfolding range_of_two image_of_two
  refusal e = (ap (λ (a : Answer (Pen × List ℕ)). and_then a (λ d. range d.0)) e, ap (last_of image) e)

  pub finish : {p : Pen} {zs : List ℕ} {a : Answer (ℕ × ℕ)} → (p, zs) ≡ lent_to i image first at second → a ≡ range p
      → Done (lent_to i image first at second) ≡ two i image first at second
      → (a ≡ range_of_two i image first at second) × (zs ≡ image_of_two i image first at second)
  unfolding range_of_two image_of_two
  finish l r e =
      let f = ap (λ (d : Pen × List ℕ). Done d) l ∙ e in
      (r ∙ ap (λ (a : Answer (Pen × List ℕ)). and_then a (λ d. range d.0)) f, ap (last_of image) f)
