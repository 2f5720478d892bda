-- Each public call allows one answer: the law of `refusals`, applied to each call's own contract. Assumes nothing.
use Rattle.refusals.specs.Says.{says_at}
use Rattle.refusals.proofs.One.{back_at, back_says_at}
use Rattle.refusals.proofs.Unique.{OneResult, same, told_apart}
use Rattle.form.proofs.is_last.Reads as is_last
use Rattle.form.proofs.is_inner.Reads as is-inner
use Rattle.form.proofs.is_followed.Reads as is-followed
use Rattle.form.proofs.declares.Reads as declares
use Rattle.form.proofs.is_numbered.Reads as is-numbered
use Rattle.form.proofs.names_in.Reads as names_in
use Rattle.form.proofs.form.Reads as form
use Rattle.form.proofs.expression_form.Reads as expression-form

pub form_one : OneResult form.Post
form_one k a x y e f p q = told_apart says_at back_at back_says_at p q

pub expression_form_one : OneResult expression-form.Post
expression_form_one k a x y e f p q = told_apart says_at back_at back_says_at p q

pub is_last_one : OneResult is_last.Post
is_last_one k a x y e f p q = same p q

pub is_inner_one : OneResult is-inner.Post
is_inner_one k a x y e f p q = same p q

pub is_followed_one : OneResult is-followed.Post
is_followed_one k a x y e f p q = same p q

pub declares_one : OneResult declares.Post
declares_one k a x y e f p q = same p q

pub is_numbered_one : OneResult is-numbered.Post
is_numbered_one k a x y e f p q = same p q

pub names_in_one : OneResult names_in.Post
names_in_one k a x y e f p q = same p q
