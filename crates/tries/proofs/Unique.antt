-- Each public call allows one answer, and one image at exit: the law of `refusals`, applied to its own contract. Assumes nothing.
use mathlib.Core.Path.{◌≡◌, refl}
use mathlib.Core.List.{List}
use Prim.Native.Nat.{ℕ}
use Rattle.std.specs.Prelude.{Result, Ok, Err}
use Rattle.refusals.specs.AnswerAt.{AnswerAt, mapped}
use Rattle.refusals.specs.Says.{says_at}
use Rattle.refusals.specs.declared.Fault as F
use Rattle.refusals.proofs.One.{back_at, back_says_at}
use Rattle.refusals.proofs.Unique.{One, OneResult, same, told_apart, and_also}
use Rattle.tries.specs.Write.{says_written}
use Rattle.tries.specs.declared.Written as W
use Rattle.tries.proofs.attempt.Reads as attempt
use Rattle.tries.proofs.write.Reads as write

pub attempt_one : OneResult attempt.Post
attempt_one k a x y e f p q = told_apart says_at back_at back_says_at p q

-- the range, read back from what is said of it
abbrev pub back_written : AnswerAt (ℕ × ℕ) → Result W.Written F.Fault
back_written a = back_at (mapped (λ x. record { start = x.0; end = x.1 }) a)

pub back_written_lem : (x : Result W.Written F.Fault) → back_written (says_written x) ≡ x
back_written_lem (Ok w) = refl
back_written_lem (Err f) = back_says_at (Err f)

-- the result, and the image at exit
pub write_one : One {S = λ k. Result W.Written F.Fault × List ℕ} (λ k x e. (x, e.1.1.1.1.1.0.now)) write.Post
write_one k a x y e f p q = and_also (told_apart says_written back_written back_written_lem p.0 q.0) (same p.1 q.1)
