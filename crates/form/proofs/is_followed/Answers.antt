-- By the kind; of an instruction, by its mode. Assumes nothing.
use mathlib.Core.Path.{ap}
use Prim.Native.Nat.{ℕ}
use mathlib.Core.Bool.{not}
use lib.Dec.{eqb}
use Rattle.form.proofs.Statements.{followed_instruction, followed_other}
use Rattle.form.proofs.is_followed.Goals as goal

pub returns-then-kind-eq-INSTRUCTION : goal.returns-then-kind-eq-INSTRUCTION
returns-then-kind-eq-INSTRUCTION c =
    followed_instruction _ _ c.u8_at-kind.ensures c.if-kind-eq-INSTRUCTION.true
    (ap (λ (mode : ℕ). not (eqb mode 0)) c.u8_at.ensures)

pub returns : goal.returns
returns c =
    followed_other _ _ c.u8_at-kind.ensures c.if-kind-eq-INSTRUCTION.false c.has_expression.ensures
