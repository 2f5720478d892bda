-- Each public call allows one answer, and one text at exit: the law of `refusals`, applied to each call's own contract.
-- Assumes nothing.
use mathlib.Core.List.{List}
use Prim.Native.Nat.{ℕ}
use Rattle.refusals.proofs.Unique.{One, same}
use Rattle.lines.proofs.put_line.Reads as put-line
use Rattle.lines.proofs.put_last.Reads as put_last
use Rattle.lines.proofs.put_refused.Reads as put-refused

-- the offset behind what was laid, and the text at exit
pub put_line_one : One {S = λ k. ℕ × List ℕ} (λ k x e. (x, e.0.now)) put-line.Post
put_line_one k a x y e f p q = same p q

pub put_last_one : One {S = λ k. ℕ × List ℕ} (λ k x e. (x, e.0.now)) put_last.Post
put_last_one k a x y e f p q = same p q

pub put_refused_one : One {S = λ k. ℕ × List ℕ} (λ k x e. (x, e.0.now)) put-refused.Post
put_refused_one k a x y e f p q = same p q
