-- Each public call allows one answer: the law of `refusals`, applied to each call's own contract. Assumes nothing.
use Rattle.refusals.proofs.Unique.{OneResult, same}
use Rattle.edges.proofs.wide.Reads as wide
use Rattle.edges.proofs.edge_at.Reads as edge_at
use Rattle.edges.proofs.at_most.Reads as at_most
use Rattle.edges.proofs.child.Reads as child
use Rattle.edges.proofs.parent.Reads as parent
use Rattle.edges.proofs.walk.Reads as walk
use Rattle.edges.proofs.has_super.Reads as has-super
use Rattle.edges.proofs.deepest.Reads as deepest
use Rattle.edges.proofs.is_taken.Reads as is-taken

pub wide_one : OneResult wide.Post
wide_one k a x y e f p q = same p q

pub edge_at_one : OneResult edge_at.Post
edge_at_one k a x y e f p q = same p q

pub at_most_one : OneResult at_most.Post
at_most_one k a x y e f p q = same p q

pub child_one : OneResult child.Post
child_one k a x y e f p q = same p q

pub parent_one : OneResult parent.Post
parent_one k a x y e f p q = same p q

pub walk_one : OneResult walk.Post
walk_one k a x y e f p q = same p q

pub has_super_one : OneResult has-super.Post
has_super_one k a x y e f p q = same p q

pub deepest_one : OneResult deepest.Post
deepest_one k a x y e f p q = same p q

pub is_taken_one : OneResult is-taken.Post
is_taken_one k a x y e f p q = same p q
