-- The test, and then the number. Assumes nothing.
use mathlib.Core.Path.{ap, ◌∙◌}
use Prim.Native.Nat.{ℕ}
use native.Mathlib.Omega.{arith}
use Rattle.refusals.specs.Answer.{Done}
use Rattle.refusals.proofs.Pick.{granted, passed, stopped}
use Rattle.symbols.specs.Symbols.{number_at, get}
use Rattle.soundness.proofs.Nodes.{node_has}
use Rattle.questions.proofs.get.Goals as goal

pub returns-then-not-is_node : goal.returns-then-not-is_node
unfolding get
returns-then-not-is_node c = stopped _ _ c.is_node.ensures c.if-not-is_node.true

pub bounds-table-wide : goal.bounds-table-wide
bounds-table-wide c =
    let node = node_has _ _ _ _ (granted c.is_node.ensures c.if-not-is_node.false) in
    omega (arith, c.wide.ensures, node.below, node.few_nodes)

pub returns : goal.returns
unfolding get
returns c =
    ap (λ (i : ℕ). Done (number_at c.args.table.numbers i)) c.wide.ensures ∙ passed _ _ c.is_node.ensures c.if-not-is_node.false
