-- The public call allows one answer: the law of `refusals`, applied to its own contract. Assumes nothing.
use Rattle.refusals.proofs.Unique.{OneResult, same}
use Rattle.mnemonics.proofs.letters_of.Reads as letters-of

pub letters_of_one : OneResult letters-of.Post
letters_of_one k a x y e f p q = same p q
