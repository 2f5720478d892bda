-- Each public call allows one answer, and one memory at exit: the law of `refusals`, applied to each call's own contract.
-- Assumes nothing.
use mathlib.Core.List.{List}
use Prim.Native.Nat.{ℕ}
use Rattle.refusals.proofs.Unique.{One, OneResult, same}
use Rattle.script_tapes.proofs.put_bytes.Reads as put-bytes
use Rattle.script_tapes.proofs.is_tape.Reads as is-tape
use Rattle.script_tapes.proofs.put_tape.Reads as put-tape

pub is_tape_one : OneResult is-tape.Post
is_tape_one k a x y e f p q = same p q

-- the offset behind what was laid, and the memory at exit
pub put_bytes_one : One {S = λ k. ℕ × List ℕ} (λ k x e. (x, e.0.now)) put-bytes.Post
put_bytes_one k a x y e f p q = same p q

pub put_tape_one : One {S = λ k. ℕ × List ℕ} (λ k x e. (x, e.0.now)) put-tape.Post
put_tape_one k a x y e f p q = same p q
