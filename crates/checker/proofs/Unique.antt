-- The public call allows one answer: the law of `refusals`, applied to its own contract. Assumes nothing.
use Rattle.refusals.specs.Says.{says_at}
use Rattle.refusals.proofs.One.{back_at, back_says_at}
use Rattle.refusals.proofs.Unique.{OneResult, told_apart}
use Rattle.checker.proofs.check.Reads as check

pub check_one : OneResult check.Post
check_one k a x y e f p q = told_apart says_at back_at back_says_at p q
