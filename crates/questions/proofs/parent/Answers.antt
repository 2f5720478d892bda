-- The test, and then the look-up. Assumes nothing.
use mathlib.Core.List.{List}
use mathlib.Core.Path.{ap, ◌∙◌}
use Rattle.refusals.specs.Answer.{Done}
use Rattle.refusals.proofs.Pick.{granted, passed, stopped}
use Rattle.symbols.specs.Symbols.{parent}
use Rattle.edges.specs.declared.Edge.{Edge}
use Rattle.edges.specs.Edges.{parent_of}
use Rattle.soundness.proofs.Nodes.{node_held}
use Rattle.questions.proofs.parent.Goals as goal

pub returns-then-not-is_node : goal.returns-then-not-is_node
unfolding parent
returns-then-not-is_node c = stopped _ _ c.is_node.ensures c.if-not-is_node.true

pub returns : goal.returns
unfolding parent
returns c =
    let node = granted c.is_node.ensures c.if-not-is_node.false in
    let a = c.args in
    let here = ap (λ (es : List Edge). parent_of es a.nx) (node_held _ _ _ _ node) in
    ap Done (c.parent.ensures ∙ here)
    ∙ passed _ _ c.is_node.ensures c.if-not-is_node.false
