-- Each public call allows one answer: the law of `refusals`, applied to each call's own contract. Assumes nothing.
use Rattle.std.proofs.Common.{◌≡◌, ℤ, refl}
use Rattle.refusals.specs.Answer.{Answer, Done, Refused}
use Rattle.refusals.proofs.Unique.{OneResult, same, told_apart}
use Rattle.refusals.specs.Says.{says}
use Rattle.refusals.proofs.One.{back, back_says}
use Rattle.int64.proofs.size.Reads as size
use Rattle.int64.proofs.of_word.Reads as of_word
use Rattle.int64.proofs.add.Reads as add
use Rattle.int64.proofs.sub.Reads as sub
use Rattle.int64.proofs.neg.Reads as neg
use Rattle.int64.proofs.mul.Reads as mul
use Rattle.int64.proofs.div.Reads as div
use Rattle.int64.proofs.rem.Reads as rem
use Rattle.int64.proofs.shl.Reads as shl
use Rattle.int64.proofs.shr.Reads as shr
use Rattle.int64.proofs.xor.Reads as xor
use Rattle.int64.proofs.low_byte.Reads as low_byte
use Rattle.int64.proofs.high_byte.Reads as high_byte
use Rattle.int64.proofs.low_word.Reads as low_word

pub size_one : OneResult size.Post
size_one k a x y e f p q = same p q

pub of_word_one : OneResult of_word.Post
of_word_one k a x y e f p q = same p q

pub add-one : OneResult add.Post
add-one k a x y e f p q = told_apart says back back_says p q

pub sub_one : OneResult sub.Post
sub_one k a x y e f p q = told_apart says back back_says p q

pub neg_one : OneResult neg.Post
neg_one k a x y e f p q = told_apart says back back_says p q

pub mul-one : OneResult mul.Post
mul-one k a x y e f p q = told_apart says back back_says p q

pub div_one : OneResult div.Post
div_one k a x y e f p q = told_apart says back back_says p q

pub rem_one : OneResult rem.Post
rem_one k a x y e f p q = told_apart says back back_says p q

pub shl_one : OneResult shl.Post
shl_one k a x y e f p q = told_apart says back back_says p q

pub shr_one : OneResult shr.Post
shr_one k a x y e f p q = told_apart says back back_says p q

pub xor_one : OneResult xor.Post
xor_one k a x y e f p q = same p q

pub low_byte_one : OneResult low_byte.Post
low_byte_one k a x y e f p q = same p q

pub high_byte_one : OneResult high_byte.Post
high_byte_one k a x y e f p q = same p q

pub low_word_one : OneResult low_word.Post
low_word_one k a x y e f p q = same p q
