-- Each public call allows one answer, and one list at exit: the law of `refusals`, applied to each call's own contract.
-- Assumes nothing.
use mathlib.Core.List.{List}
use Prim.Native.Nat.{ℕ}
use lib.IntN.{ℤ}
use Rattle.refusals.proofs.Unique.{One, OneResult, same, and_also}
use Rattle.number_list.proofs.clear.Reads as clear
use Rattle.number_list.proofs.gather.Reads as gather
use Rattle.number_list.proofs.spread.Reads as spread

pub clear_one : One {S = λ k. List ℤ} (λ k x e. e.0.now) clear.Post
clear_one k a x y e f p q = same p q

-- how many numbers, and the list at exit
pub gather_one : One {S = λ k. ℕ × List ℤ} (λ k x e. (x, e.1.1.0.now)) gather.Post
gather_one k a x y e f p q = and_also (same p.0 q.0) (same p.1 q.1)

pub spread_one : OneResult spread.Post
spread_one k a x y e f p q = same p q
