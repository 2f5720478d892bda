-- The public call allows one answer: the law of `refusals`, applied to its own contract. Assumes nothing.
use Rattle.refusals.proofs.Unique.{OneResult, same}
use Rattle.text_encoding.proofs.petscreen.Reads as petscreen

pub petscreen_one : OneResult petscreen.Post
petscreen_one k a x y e f p q = same p q
