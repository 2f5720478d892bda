-- Each public call allows one answer: the law of `refusals`, applied to each call's own contract. Of a record it speaks of the
-- bytes. Assumes nothing.
use mathlib.Core.List.{List}
use Prim.Native.Nat.{ℕ}
use Rattle.refusals.specs.Says.{says_at}
use Rattle.refusals.proofs.Unique.{One, OneResult, same, told_apart}
use Rattle.refusals.proofs.One.{back_at, back_says_at}
use Rattle.tape.proofs.size.Reads as size
use Rattle.tape.proofs.is_expression.Reads as is-expression
use Rattle.tape.proofs.is_statement.Reads as is-statement
use Rattle.tape.proofs.is_name.Reads as is_name
use Rattle.tape.proofs.find.Reads as find
use Rattle.tape.proofs.record.Reads as record-reads

pub size_one : OneResult size.Post
size_one k a x y e f p q = same p q

pub is_expression_one : OneResult is-expression.Post
is_expression_one k a x y e f p q = same p q

pub is_statement_one : OneResult is-statement.Post
is_statement_one k a x y e f p q = same p q

pub is_name_one : OneResult is_name.Post
is_name_one k a x y e f p q = same p q

pub find_one : OneResult find.Post
find_one k a x y e f p q = told_apart says_at back_at back_says_at p q

pub record_one : One {S = λ k. List ℕ} (λ k x e. x.now) record-reads.Post
record_one k a x y e f p q = same p q
