-- Each public call allows one answer, or one index at exit: the law of `refusals`, applied to each call's own contract. Assumes nothing.
use mathlib.Core.List.{List}
use Prim.Native.Nat.{ℕ}
use Rattle.refusals.proofs.Unique.{One, OneResult, same}
use Rattle.index.proofs.add.Reads as add
use Rattle.index.proofs.of.Reads as of
use Rattle.index.proofs.child.Reads as child
use Rattle.index.proofs.parent.Reads as parent
use Rattle.index.proofs.walk.Reads as walk
use Rattle.index.proofs.ids_of.Reads as ids-of
use Rattle.index.proofs.has_super.Reads as has-super

pub add-one : One {S = λ k. List ℕ} (λ k x e. e.0.now) add.Post
add-one k a x y e f p q = same p q

pub of_one : OneResult of.Post
of_one k a x y e f p q = same p q

pub child_one : OneResult child.Post
child_one k a x y e f p q = same p q

pub parent_one : OneResult parent.Post
parent_one k a x y e f p q = same p q

pub walk_one : OneResult walk.Post
walk_one k a x y e f p q = same p q

pub ids_of_one : OneResult ids-of.Post
ids_of_one k a x y e f p q = same p q

pub has_super_one : OneResult has-super.Post
has_super_one k a x y e f p q = same p q
