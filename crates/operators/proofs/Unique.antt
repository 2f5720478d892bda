-- Each public call allows one answer: the law of `refusals`, applied to each call's own contract. Assumes nothing.
use Rattle.refusals.proofs.Unique.{OneResult, same, told_apart}
use Rattle.refusals.specs.Says.{says}
use Rattle.refusals.proofs.One.{back, back_says}
use Rattle.operators.proofs.eq.Reads as eq
use Rattle.operators.proofs.ne.Reads as ne
use Rattle.operators.proofs.gt.Reads as gt
use Rattle.operators.proofs.gt_eq.Reads as gt-eq
use Rattle.operators.proofs.lt.Reads as lt
use Rattle.operators.proofs.lt_eq.Reads as lt-eq
use Rattle.operators.proofs.and.Reads as and
use Rattle.operators.proofs.or.Reads as or
use Rattle.operators.proofs.not.Reads as not
use Rattle.operators.proofs.apply_i64.Reads as apply-i64

pub eq_one : OneResult eq.Post
eq_one k a x y e f p q = same p q

pub ne_one : OneResult ne.Post
ne_one k a x y e f p q = same p q

pub gt_one : OneResult gt.Post
gt_one k a x y e f p q = same p q

pub gt_eq_one : OneResult gt-eq.Post
gt_eq_one k a x y e f p q = same p q

pub lt_one : OneResult lt.Post
lt_one k a x y e f p q = same p q

pub lt_eq_one : OneResult lt-eq.Post
lt_eq_one k a x y e f p q = same p q

pub and_one : OneResult and.Post
and_one k a x y e f p q = same p q

pub or_one : OneResult or.Post
or_one k a x y e f p q = same p q

pub not_one : OneResult not.Post
not_one k a x y e f p q = same p q

pub apply_i64_one : OneResult apply-i64.Post
apply_i64_one k a x y e f p q = told_apart says back back_says p q
