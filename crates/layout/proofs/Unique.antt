-- The public call allows one answer, and one memory at exit: the law of `refusals`, applied to its own contract. Assumes nothing.
use Rattle.std.specs.Prelude.{ℕ, List, Result}
use Rattle.refusals.specs.declared.Fault.{Fault}
use Rattle.refusals.proofs.Unique.{One, same, told_apart, and_also}
use Rattle.passes.specs.declared.Settled.{Settled}
use Rattle.passes.specs.Settle.{says_settled}
use Rattle.passes.proofs.Unique.{back_settled, back_settled_lem}
use Rattle.layout.proofs.lay_out.Reads as lay-out

-- the result, and the notes at exit
pub lay_out_one : One {S = λ k. Result Settled Fault × List ℕ} (λ k x e. (x, e.1.1.0.now)) lay-out.Post
lay_out_one k a x y e f p q = and_also (told_apart says_settled back_settled back_settled_lem p.0 q.0) (same p.1 q.1)
