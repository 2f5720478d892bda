-- What a build that begins with `new` may rely on: a pen at its initial place is sound. Assumes nothing.
use mathlib.Core.Bool.{true, ◌&&◌}
use mathlib.Core.Path.{◌≡◌, subst}
use Prim.Native.Nat.{ℕ, ◌≤◌}
use native.Mathlib.Omega.{arith}
use lib.Dec.{leb}
use Rattle.refusals.specs.Answer.{Done}
use Rattle.refusals.specs.Table.{argument}
use Rattle.refusals.proofs.Pick.{done_passed, done_value}
use Rattle.pen.specs.declared.Pen.{Pen}
use Rattle.pen.specs.Pens.{size, sound, begun, new}
use Rattle.pen.proofs.Laws.{new_has, sound_is}

pub begun_sound : (i t : ℕ) → i ≤ 65536 → t ≤ 65536 → sound (begun i t) ≡ true
unfolding begun
begun_sound i t h k = sound_is _ (record { place = h; initial = h; target = k; start = omega arith; end = h })

-- and so is the one that `new` gives
pub new_sound : (i t : ℕ) {q : Pen} → new i t ≡ Done q → sound q ≡ true
unfolding new
new_sound i t e =
    let a = done_passed (leb i size && leb t size) (Done (begun i t)) argument e in
    let b = new_has i t a.0 in
    subst (λ (p : Pen). sound p ≡ true) (done_value a.1) (begun_sound i t b.0 b.1)
