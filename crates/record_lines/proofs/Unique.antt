-- The public call allows one answer, and one text at exit: the law of `refusals`, applied to its own contract. Assumes nothing.
use mathlib.Core.List.{List}
use Prim.Native.Nat.{ℕ}
use Rattle.refusals.proofs.Unique.{One, same}
use Rattle.record_lines.proofs.put_records.Reads as put-records

-- the offset behind what was laid, and the text at exit
pub put_records_one : One {S = λ k. ℕ × List ℕ} (λ k x e. (x, e.1.1.1.1.1.0.now)) put-records.Post
put_records_one k a x y e f p q = same p q
