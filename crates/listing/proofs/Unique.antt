-- The public call allows one answer, and one text at exit: the law of `refusals`, applied to its own contract. Assumes nothing.
use mathlib.Core.List.{List}
use mathlib.Core.Path.{ap}
use Prim.Native.Nat.{ℕ}
use Rattle.std.specs.Prelude.{Result}
use Rattle.refusals.specs.Says.{says}
use Rattle.refusals.specs.declared.Refusal.{Refusal}
use Rattle.refusals.proofs.One.{back, back_says}
use Rattle.refusals.proofs.Unique.{One, same, told_apart, and_also}
use Rattle.listing.proofs.list.Reads as list

-- the result, and what is left in the text
pub list_one : One {S = λ k. Result ℕ Refusal × List ℕ} (λ k x e. (x, e.1.1.0.now)) list.Post
list_one k a x y e f p q =
    and_also (told_apart says back back_says (ap (λ z. z.0) p) (ap (λ z. z.0) q))
    (same (ap (λ z. z.1) p) (ap (λ z. z.1) q))
