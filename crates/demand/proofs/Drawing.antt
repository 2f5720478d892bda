-- Bytes are drawn on a page exactly where there is room, and then stand over its image. Assumes nothing.
use mathlib.Core.List.{List, ◌∷◌}
use mathlib.Core.Path.{◌≡◌}
use Prim.Native.Nat.{ℕ, ◌+◌, ◌≤◌, ◌<◌}
use native.Mathlib.Omega.{arith}
use lib.ListN.{length}
use borrow.Author.Tests.{le-leb, eq-eqb}
use Rattle.refusals.specs.Answer.{Done}
use Rattle.refusals.specs.Memory.{over}
use Rattle.refusals.proofs.Answers.{done_then, done_mapped}
use Rattle.pen.specs.declared.Pen.{Pen}
use Rattle.pen.specs.Pens.{size, sound_over, of_pen, of_both, fits}
use Rattle.segment.specs.Segment.{set_pc, widened, ground, emit, image_after}
use Rattle.pen.proofs.Laws.{Sound, sound_has, sound_is}
use Rattle.segment.proofs.Kept.{set_pc_place, set_pc_sound, emit_has, emit_sound}
use Rattle.tries.specs.Tries.{Page, page, drawn}

-- the pen, gone to a place
abbrev gone : Pen → ℕ → Pen
gone p place = record { place = place; initial = p.initial; target = p.target; start = p.start; end = p.end; emitted = p.emitted }

-- the page with the bytes
abbrev pub with_bytes : Page → ℕ → List ℕ → Page
with_bytes p place bs = page (widened (gone p.pen place) (length bs)) (over (ground p.pen.emitted p.image) place bs)

module _ (p : Page) (place : ℕ) where
  -- bytes that were drawn had room
  pub drawn_room : (b : ℕ) (bs : List ℕ) (q : Page) → drawn p place (b ∷ bs) ≡ Done q → place + length (b ∷ bs) ≤ size
  drawn_room b bs q e =
      let (pen, there, more) = done_then (set_pc p.pen place) _ q e in
      let (r, is, _) = done_mapped (λ x. page x (image_after pen p.image (b ∷ bs))) (emit pen p.image (b ∷ bs)) q more in
      omega (arith, set_pc_place p.pen place there, (emit_has pen p.image (b ∷ bs) is).2)

  -- where there is room, they are drawn
  module _ (s : Sound p.pen) (long : length p.image ≡ size) where
    set_pc_is : place ≤ size → set_pc p.pen place ≡ Done (gone p.pen place)
    unfolding set_pc of_pen
    set_pc_is low = rw (sound_is p.pen s, le-leb place size low)

    emit_is : (bs : List ℕ) → 0 < length bs → place + length bs ≤ size
        → emit (gone p.pen place) p.image bs ≡ Done (widened (gone p.pen place) (length bs))
    unfolding emit of_both sound_over fits
    emit_is bs some room =
        rw (
          eq-eqb (length p.image) size long,
          set_pc_sound p.pen place (set_pc_is (omega arith)),
          le-leb place 65535 (omega arith),
          le-leb (place + length bs) size room,
        )

    pub drawn_is : (b : ℕ) (bs : List ℕ) → place + length (b ∷ bs) ≤ size → drawn p place (b ∷ bs) ≡ Done (with_bytes p place (b ∷ bs))
    unfolding image_after
    drawn_is b bs room = rw (set_pc_is (omega arith), emit_is (b ∷ bs) (omega arith) room)

    pub drawn_sound : (bs : List ℕ) → 0 < length bs → place + length bs ≤ size → Sound (with_bytes p place bs).pen
    drawn_sound bs some room = sound_has _ (emit_sound (gone p.pen place) p.image bs (emit_is bs some room))
