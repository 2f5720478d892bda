-- The public call allows one answer: the law of `refusals`, applied to the call's own contract. Assumes nothing.
use Rattle.refusals.specs.Says.{says}
use Rattle.refusals.proofs.Unique.{OneResult, told_apart}
use Rattle.refusals.proofs.One.{back, back_says}
use Rattle.branch.proofs.distance_of.Reads as distance-of

pub distance_of_one : OneResult distance-of.Post
distance_of_one k a x y e f p q = told_apart says back back_says p q
