-- Each public call allows one answer, and one text at exit: the law of `refusals`, applied to each call's own contract.
-- Assumes nothing.
use mathlib.Core.List.{List}
use Prim.Native.Nat.{ℕ}
use Rattle.refusals.proofs.Unique.{One, same}
use Rattle.numerals.proofs.put_place.Reads as put-place
use Rattle.numerals.proofs.put_decimal.Reads as put-decimal

-- the offset behind what was laid, and the text at exit
pub put_place_one : One {S = λ k. ℕ × List ℕ} (λ k x e. (x, e.0.now)) put-place.Post
put_place_one k a x y e f p q = same p q

pub put_decimal_one : One {S = λ k. ℕ × List ℕ} (λ k x e. (x, e.0.now)) put-decimal.Post
put_decimal_one k a x y e f p q = same p q
