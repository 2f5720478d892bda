-- Each public call allows one answer, and one list at exit: the law of `refusals`, applied to each call's own contract. Assumes nothing.
use Rattle.std.proofs.Common.{ℕ, List}
use Rattle.std.specs.Prelude.{Result}
use Rattle.refusals.specs.Says.{says}
use Rattle.refusals.specs.declared.Refusal.{Refusal}
use Rattle.refusals.proofs.One.{back, back_says}
use Rattle.refusals.proofs.Unique.{One, OneResult, same, told_apart, and_also}
use Rattle.questions.proofs.get.Reads as get
use Rattle.questions.proofs.try_index.Reads as try-index
use Rattle.questions.proofs.parent.Reads as parent
use Rattle.questions.proofs.child.Reads as child
use Rattle.questions.proofs.query.Reads as query
use Rattle.questions.proofs.query_all.Reads as query-all

pub get_one : OneResult get.Post
get_one k a x y e f p q = told_apart says back back_says p q

pub try_index_one : OneResult try-index.Post
try_index_one k a x y e f p q = told_apart says back back_says p q

pub parent_one : OneResult parent.Post
parent_one k a x y e f p q = told_apart says back back_says p q

pub child_one : OneResult child.Post
child_one k a x y e f p q = told_apart says back back_says p q

pub query_one : OneResult query.Post
query_one k a x y e f p q = told_apart says back back_says p q

-- the result, and the list at exit
pub query_all_one : One {S = λ k. Result ℕ Refusal × List ℕ} (λ k x e. (x, e.1.1.1.0.now)) query-all.Post
query_all_one k a x y e f p q = and_also (told_apart says back back_says p.0 q.0) (same p.1 q.1)
