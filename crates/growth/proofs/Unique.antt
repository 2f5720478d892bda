-- Each public call allows one answer: the law of `refusals`, applied to each call's own contract. Assumes nothing.
use Rattle.refusals.specs.Says.{says}
use Rattle.refusals.proofs.One.{back, back_says}
use Rattle.refusals.proofs.Unique.{OneResult, told_apart}
use Rattle.growth.proofs.may_insert.Reads as may-insert
use Rattle.growth.proofs.may_ensure.Reads as may-ensure
use Rattle.growth.proofs.may_export.Reads as may-export

pub may_insert_one : OneResult may-insert.Post
may_insert_one k a x y e f p q = told_apart says back back_says p q

pub may_ensure_one : OneResult may-ensure.Post
may_ensure_one k a x y e f p q = told_apart says back back_says p q

pub may_export_one : OneResult may-export.Post
may_export_one k a x y e f p q = told_apart says back back_says p q
