-- The public call allows one answer, and one memory at exit: the law of `refusals`, applied to its own contract. Assumes nothing.
use Rattle.std.specs.Prelude.{Result}
use mathlib.Core.List.{List}
use Prim.Native.Nat.{ℕ}
use Rattle.refusals.specs.declared.Fault.{Fault}
use Rattle.refusals.specs.Says.{says_at}
use Rattle.refusals.proofs.One.{back_at, back_says_at}
use Rattle.refusals.proofs.Unique.{One, same, told_apart, and_also}
use Rattle.symbols.specs.declared.SymbolTable.{SymbolTable}
use Rattle.names.proofs.declare.Reads as declare

-- the result, and the notes at exit
pub declare_one_lem : One {S = λ k. Result SymbolTable Fault × List ℕ} (λ k x e. (x, e.1.0.now)) declare.Post
declare_one_lem k a x y e f p q = and_also (told_apart says_at back_at back_says_at p.0 q.0) (same p.1 q.1)
