-- Each public call allows one answer: the law of `refusals`, applied to each call's own contract. Assumes nothing.
use Rattle.refusals.proofs.Unique.{OneResult, told_apart, same}
use Rattle.evaluator.specs.Says.{says_value}
use Rattle.evaluator.proofs.Unique.{back_value, back_value_lem}
use Rattle.walk.proofs.value_of.Reads as value_of_lem
use Rattle.walk.proofs.number_of.Reads as number_of_lem
use Rattle.walk.proofs.moved_to.Reads as moved_to

pub value_of_one : OneResult value_of_lem.Post
value_of_one k a x y e f p q = told_apart says_value back_value back_value_lem p q

pub number_of_one : OneResult number_of_lem.Post
number_of_one k a x y e f p q = same p q

pub moved_to_one : OneResult moved_to.Post
moved_to_one k a x y e f p q = same p q
