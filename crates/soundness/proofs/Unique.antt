-- The public call allows one answer: the law of `refusals`, applied to its own contract. Assumes nothing.
use Rattle.refusals.proofs.Unique.{OneResult, same}
use Rattle.soundness.proofs.is_node.Reads as is-node

pub is_node_one : OneResult is-node.Post
is_node_one k a x y e f p q = same p q
