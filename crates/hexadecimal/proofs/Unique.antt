-- Each public call allows one answer: the law of `refusals`, applied to its own contract. Assumes nothing.
use Rattle.refusals.proofs.Unique.{OneResult, same}
use Rattle.hexadecimal.proofs.digit.Reads as digit
use Rattle.hexadecimal.proofs.capital.Reads as capital

pub digit_one : OneResult digit.Post
digit_one k a x y e f p q = same p q

pub capital_one : OneResult capital.Post
capital_one k a x y e f p q = same p q
