-- The public call allows one answer, and one image, list and work memory at exit: the law of `refusals`, applied to its own contract.
-- Assumes nothing.
use mathlib.Core.Path.{ap}
use Rattle.refusals.proofs.Unique.{One, same, told_apart, and_also}
use Rattle.std.specs.Prelude.{Result}
use Rattle.refusals.specs.declared.Fault as F
use Rattle.finish.specs.declared.Built as B
use Rattle.finish.specs.Finish.{says_built}
use Rattle.finish.proofs.Unique.{back_built, back_built_lem}
use Rattle.builder.specs.Call.{Memory, memory}
use Rattle.builder.proofs.build.Reads as build

-- the result, and what is left in the three buffers
pub build_one : One {S = λ k. Result B.Built F.Fault × Memory}
    (λ k x e. (x, memory e.1.1.0.now e.1.1.1.0.now e.1.1.1.1.0.now)) build.Post
build_one k a x y e f p q =
    and_also (told_apart says_built back_built back_built_lem (ap (λ z. z.0) p) (ap (λ z. z.0) q)) (same (ap (λ z. z.1) p) (ap (λ z. z.1) q))
