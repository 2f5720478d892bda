-- Each public call allows one answer, one pen at exit and one image at exit: the law of `refusals`, applied to each call's own contract.
-- Assumes nothing.
use mathlib.Core.List.{List}
use Prim.Native.Nat.{ℕ}
use mathlib.Core.Path.{◌≡◌}
use Rattle.std.specs.Prelude.{Result}
use Rattle.refusals.specs.Answer.{Answer}
use Rattle.refusals.specs.Says.{says}
use Rattle.refusals.specs.declared.Refusal.{Refusal}
use Rattle.refusals.proofs.Unique.{One, same, told_apart, and_also}
use Rattle.refusals.proofs.One.{back, back_says}
use Rattle.program_counter.specs.declared.Range.{Range}
use Rattle.program_counter.specs.Says.{says_range}
use Rattle.program_counter.proofs.Unique.{back_range, back_range_lem}
use Rattle.pen.specs.declared.Pen.{Pen}
use Rattle.lent_pen.proofs.reset.Reads as reset
use Rattle.lent_pen.proofs.set_pc.Reads as set_pc
use Rattle.lent_pen.proofs.emit.Reads as emit
use Rattle.lent_pen.proofs.emit_two.Reads as emit-two

-- ---- of the pen at exit and what the answer says, the answer

abbrev Lent : Type 0
Lent = Pen × Result (Unit {0}) Refusal

abbrev says_lent : Lent → Pen × Answer (Unit {0})
says_lent d = (d.0, says d.1)

abbrev back_lent : Pen × Answer (Unit {0}) → Lent
back_lent d = (d.0, back d.1)

back_lent_lem : (x : Lent) → back_lent (says_lent x) ≡ x
back_lent_lem x i = (x.0, back_says x.1 i)

-- ---- the calls

-- the answer, and the pen at exit
pub reset_one : One {S = λ k. Lent} (λ k x e. (e.0.now, x)) reset.Post
reset_one k a x y e f p q = told_apart says_lent back_lent back_lent_lem p q

pub set_pc_one : One {S = λ k. Lent} (λ k x e. (e.0.now, x)) set_pc.Post
set_pc_one k a x y e f p q = told_apart says_lent back_lent back_lent_lem p q

-- these, and the image at exit
pub emit_one : One {S = λ k. Lent × List ℕ} (λ k x e. ((e.0.now, x), e.1.0.now)) emit.Post
emit_one k a x y e f p q = and_also (told_apart says_lent back_lent back_lent_lem p.0 q.0) (same p.1 q.1)

-- the range, and the image at exit
pub emit_two_one : One {S = λ k. Result Range Refusal × List ℕ} (λ k x e. (x, e.1.0.now)) emit-two.Post
emit_two_one k a x y e f p q = and_also (told_apart says_range back_range back_range_lem p.0 q.0) (same p.1 q.1)
