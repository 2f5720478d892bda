-- Each public call allows one answer, and one image and list at exit: the law of `refusals`, applied to each call's own contract. Assumes
-- nothing.
use mathlib.Core.List.{List}
use mathlib.Core.Path.{◌≡◌, refl, ap}
use Prim.Native.Nat.{ℕ}
use lib.IntN.{ℤ}
use Rattle.std.specs.Prelude.{Result, Ok, Err}
use Rattle.refusals.specs.AnswerAt.{AnswerAt, mapped}
use Rattle.refusals.specs.declared.Fault as F
use Rattle.refusals.proofs.One.{back_at, back_says_at}
use Rattle.refusals.proofs.Unique.{One, OneResult, same, told_apart}
use Rattle.tries.specs.Write.{says_written}
use Rattle.tries.proofs.Unique.{back_written, back_written_lem}
use Rattle.finish.specs.declared.Built as B
use Rattle.finish.specs.Finish.{Report, says_built}
use Rattle.finish.proofs.finish.Reads as finish
use Rattle.finish.proofs.tried.Reads as tried

-- the build, read back from what is said of it
abbrev pub back_built : AnswerAt Report → Result B.Built F.Fault
back_built a = back_at (mapped (λ r. record { start = r.0; end = r.1; numbers = r.2; passes = r.3 }) a)

pub back_built_lem : (x : Result B.Built F.Fault) → back_built (says_built x) ≡ x
back_built_lem (Ok b) = refl
back_built_lem (Err f) = back_says_at (Err f)

-- the result, and what is left in the two buffers
pub finish_one : One {S = λ k. Result B.Built F.Fault × List ℕ × List ℤ} (λ k x e. (x, e.1.1.1.1.1.0.now, e.1.1.1.1.1.1.0.now)) finish.Post
finish_one k a x y e f p q =
    let answer = told_apart says_built back_built back_built_lem (ap (λ z. z.0) p) (ap (λ z. z.0) q) in
    let image = same (ap (λ z. z.1) p) (ap (λ z. z.1) q) in
    let list = same (ap (λ z. z.2) p) (ap (λ z. z.2) q) in
    λ i. (answer i, image i, list i)

pub tried_one : OneResult tried.Post
tried_one k a x y e f p q = told_apart says_written back_written back_written_lem p q
