-- Each public call allows one answer, and one memory at exit: the law of `refusals`, applied to each call's own contract.
-- Assumes nothing.
use mathlib.Core.List.{List}
use Prim.Native.Nat.{ℕ}
use Rattle.refusals.proofs.Unique.{One, OneResult, same}
use Rattle.page.proofs.put.Reads as put
use Rattle.page.proofs.put_all.Reads as put_all_lem
use Rattle.page.proofs.put_often.Reads as put-often
use Rattle.page.proofs.put_hex.Reads as put-hex
use Rattle.page.proofs.cut.Reads as cut
use Rattle.page.proofs.is_same.Reads as is_same

-- the offset behind what was laid, and the memory at exit
pub put_one : One {S = λ k. ℕ × List ℕ} (λ k x e. (x, e.0.now)) put.Post
put_one k a x y e f p q = same p q

pub put_all_one : One {S = λ k. ℕ × List ℕ} (λ k x e. (x, e.0.now)) put_all_lem.Post
put_all_one k a x y e f p q = same p q

pub put_often_one : One {S = λ k. ℕ × List ℕ} (λ k x e. (x, e.0.now)) put-often.Post
put_often_one k a x y e f p q = same p q

pub put_hex_one : One {S = λ k. ℕ × List ℕ} (λ k x e. (x, e.0.now)) put-hex.Post
put_hex_one k a x y e f p q = same p q

-- the bytes of the part
pub cut_one : One {S = λ k. List ℕ} (λ k x e. x.now) cut.Post
cut_one k a x y e f p q = same p q

pub is_same_one : OneResult is_same.Post
is_same_one k a x y e f p q = same p q
