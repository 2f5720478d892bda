-- Each public call allows one answer, and one image at exit: the law of `refusals`, applied to each call's own contract.
-- Assumes nothing.
use mathlib.Core.List.{List}
use Prim.Native.Nat.{ℕ}
use Rattle.std.specs.Prelude.{Result}
use Rattle.refusals.specs.Says.{says}
use Rattle.refusals.specs.declared.Refusal.{Refusal}
use Rattle.refusals.proofs.Unique.{One, OneResult, same, told_apart, and_also}
use Rattle.refusals.proofs.One.{back, back_says}
use Rattle.pen.specs.declared.Pen.{Pen}
use Rattle.segment.proofs.reset.Reads as reset
use Rattle.segment.proofs.set_pc.Reads as set_pc_lem
use Rattle.segment.proofs.emit.Reads as emit

pub reset_one : OneResult reset.Post
reset_one k a x y e f p q = told_apart says back back_says p q

pub set_pc_one : OneResult set_pc_lem.Post
set_pc_one k a x y e f p q = told_apart says back back_says p q

-- the result, and the image at exit
pub emit_one : One {S = λ k. Result Pen Refusal × List ℕ} (λ k x e. (x, e.1.0.now)) emit.Post
emit_one k a x y e f p q = and_also (told_apart says back back_says p.0 q.0) (same p.1 q.1)
