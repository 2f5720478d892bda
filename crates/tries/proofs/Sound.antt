-- What the tries write lies in a range that runs forward, inside an image of 65,536 bytes. Assumes nothing.
use Rattle.std.specs.Prelude.{Option}
use mathlib.Core.Bool.{true}
use mathlib.Core.List.{List, [], ◌∷◌}
use mathlib.Core.Path.{◌≡◌, refl, sym, ◌∙◌, subst}
use Prim.Native.Nat.{ℕ, ◌≤◌}
use lib.IntN.{ℤ}
use lib.ListN.{length, length-replicate}
use Rattle.refusals.specs.Answer as A
use Rattle.refusals.specs.Answer.{Answer, Done, Refused}
use Rattle.refusals.specs.AnswerAt.{Fine}
use Rattle.refusals.proofs.Never.{never}
use Rattle.refusals.proofs.Pick.{done_value}
use Rattle.pen.specs.declared.Pen.{Pen}
use Rattle.pen.specs.Pens.{size, sound}
use Rattle.segment.specs.Segment.{set_pc, emit, image_after}
use Rattle.pen.proofs.Laws.{new_is, sound_has}
use Rattle.pen.proofs.Kept.{new_sound}
use Rattle.segment.proofs.Kept.{emit_sound, emit_length}
use Rattle.form.specs.Statements.{Statement}
use Rattle.evaluator.specs.Expression.{Value}
use Rattle.walk.specs.Walk.{Origin}
use Rattle.compares.specs.declared.Compares.{Compares}
use Rattle.tries.specs.Tries.{Page, page, blank, Trying, start, tries}
use Rattle.tries.proofs.Keeping.{Kept, kept_tries}

-- ---- a sound pen over a whole image

pub record Whole (p : Page) : Type 0 where
  pub pen : sound p.pen ≡ true
  pub image : length p.image ≡ size

pub whole_blank : (o : Origin) → o.initial ≤ size → Whole (blank o)
whole_blank o low = record {
  pen = new_sound o.initial o.initial (sym (new_is o.initial o.initial low low refl));
  image = length-replicate {A = ℕ} size 0;
}

pub whole_drawn : Kept Whole
whole_drawn p q place [] h e = subst Whole (done_value e) h
whole_drawn p q place (b ∷ bs) h e = moved (set_pc p.pen place) e
  where
    written : (pen : Pen) (a : Answer Pen) → emit pen p.image (b ∷ bs) ≡ a
        → A.mapped (λ r. page r (image_after pen p.image (b ∷ bs))) a ≡ Done q → Whole q
    written pen (Done r) is e =
        subst Whole (done_value e) (record {
          pen = emit_sound pen p.image (b ∷ bs) is;
          image = emit_length pen p.image (b ∷ bs) ∙ h.image;
        })
    written pen (Refused n) is e = never (cc)

    moved : (a : Answer Pen)
        → A.and_then a (λ pen. A.mapped (λ r. page r (image_after pen p.image (b ∷ bs))) (emit pen p.image (b ∷ bs))) ≡ Done q
        → Whole q
    moved (Done pen) e = written pen _ refl e
    moved (Refused n) e = never (cc)

-- ---- what is written

-- the range runs forward, inside an image of 65,536 bytes
pub record Inside (p : Page) : Type 0 where
  pub forward : p.pen.start ≤ p.pen.end
  pub end : p.pen.end ≤ size
  pub image : length p.image ≡ size

pub tries_sound : (reads : (ℕ → Option ℤ) → ℤ → ℕ → Value) (c : Compares) (numbers : ℕ → Option ℤ) (o : Origin) (xs : List Statement)
    → o.initial ≤ size → {u : Trying} → tries reads c numbers (start o) xs ≡ Fine u → Inside u.page
tries_sound reads c numbers o xs low {u} e =
    let whole = kept_tries Whole whole_drawn reads c numbers (start o) xs (whole_blank o low) e in
    let s = sound_has u.page.pen whole.pen in
    record { forward = s.start; end = s.end; image = whole.image }
