-- What a sound pen has, and what room there is at its place. Assumes nothing.
use mathlib.Core.Bool.{true, ◌&&◌, and-eq-true_iff}
use mathlib.Core.Path.{◌≡◌, ap}
use Prim.Native.Nat.{ℕ, ◌+◌, ◌≤◌}
use lib.Dec.{leb}
use borrow.Author.Tests.{leb-true, eqb-true, le-leb}
use Rattle.refusals.specs.Answer.{Done}
use Rattle.pen.specs.declared.Pen.{Pen}
use Rattle.pen.specs.Pens.{size, begun, new, sound, sound_over, fits}

-- ---- sound

pub record Sound (p : Pen) : Type 0 where
  pub place : p.place ≤ 65536
  pub initial : p.initial ≤ 65536
  pub target : p.target ≤ 65536
  pub start : p.start ≤ p.end
  pub end : p.end ≤ 65536

pub sound_has : (p : Pen) → sound p ≡ true → Sound p
unfolding sound
sound_has p h =
    let a = (and-eq-true_iff _ _).0 h in
    let b = (and-eq-true_iff _ _).0 a.0 in
    let c = (and-eq-true_iff _ _).0 b.0 in
    let d = (and-eq-true_iff _ _).0 c.0 in
    record {
      place = leb-true _ _ d.0;
      initial = leb-true _ _ d.1;
      target = leb-true _ _ c.1;
      start = leb-true _ _ b.1;
      end = leb-true _ _ a.1;
    }

pub sound_is : (p : Pen) → Sound p → sound p ≡ true
unfolding sound
sound_is p s = simp (le-leb _ _ s.place, le-leb _ _ s.initial, le-leb _ _ s.target, le-leb _ _ s.start, le-leb _ _ s.end)

pub sound_over_has : (p : Pen) (n : ℕ) → sound_over p n ≡ true → (n ≡ 65536) × Sound p
unfolding sound_over
sound_over_has p n h =
    let a = (and-eq-true_iff _ _).0 h in
    (eqb-true _ _ a.0, sound_has p a.1)

-- ---- new

pub new_has : (i t : ℕ) → leb i size && leb t size ≡ true → (i ≤ 65536) × (t ≤ 65536)
new_has i t h =
    let a = (and-eq-true_iff (leb i size) (leb t size)).0 h in
    (leb-true _ _ a.0, leb-true _ _ a.1)

pub new_is : (i t : ℕ) → i ≤ 65536 → t ≤ 65536 → {q : Pen} → q ≡ begun i t → Done q ≡ new i t
unfolding new
new_is i t h k e = simp (le-leb _ _ h, le-leb _ _ k) (ap Done e)

-- ---- room

-- an accepted emit begins and ends inside the image
pub fits_has : (p : Pen) (n : ℕ) → fits p n ≡ true → (p.place ≤ 65535) × (p.place + n ≤ 65536)
unfolding fits
fits_has p n h =
    let a = (and-eq-true_iff (leb p.place 65535) (leb (p.place + n) 65536)).0 h in
    (leb-true _ _ a.0, leb-true _ _ a.1)
