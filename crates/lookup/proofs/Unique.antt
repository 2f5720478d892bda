-- Each public call allows one answer: the law of `refusals`, applied to each call's own contract. Assumes nothing.
use mathlib.Core.List.{List}
use Prim.Native.Nat.{ℕ}
use Rattle.refusals.proofs.Unique.{One, OneResult, same, told_apart}
use Rattle.refusals.specs.Says.{says}
use Rattle.refusals.proofs.One.{back, back_says}
use Rattle.lookup.proofs.node_of.Reads as node_of
use Rattle.lookup.proofs.clear.Reads as clear
use Rattle.lookup.proofs.note.Reads as note

pub node_of_one : OneResult node_of.Post
node_of_one k a x y e f p q = told_apart says back back_says p q

-- their result is the memory that they leave
pub clear_one : One {S = λ k. List ℕ} (λ k x e. e.0.now) clear.Post
clear_one k a x y e f p q = same p q

pub note_one : One {S = λ k. List ℕ} (λ k x e. e.0.now) note.Post
note_one k a x y e f p q = same p q
