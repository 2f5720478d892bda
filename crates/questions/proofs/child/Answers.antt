-- The tests, and then the look-up. Assumes nothing.
use mathlib.Core.List.{List}
use mathlib.Core.Path.{ap, ◌∙◌}
use Rattle.refusals.specs.Answer.{Done}
use Rattle.refusals.proofs.Pick.{at_true, at_false, granted, denied}
use Rattle.symbols.specs.Symbols.{child}
use Rattle.edges.specs.declared.Edge.{Edge}
use Rattle.edges.specs.Edges.{child_of}
use Rattle.soundness.proofs.Nodes.{fails_first, fails_then, holds_both, node_held}
use Rattle.growth.proofs.Laws.{no_name, name}
use Rattle.questions.proofs.child.Goals as goal

pub returns-then-not-is_node : goal.returns-then-not-is_node
unfolding child
returns-then-not-is_node c = at_false _ _ (fails_first _ (denied c.is_node.ensures c.if-not-is_node.true))

pub returns-then-id-eq-SUPER : goal.returns-then-id-eq-SUPER
unfolding child
returns-then-id-eq-SUPER c =
    let node = granted c.is_node.ensures c.if-not-is_node.false in
    at_false _ _ (fails_then node (no_name _ c.if-id-eq-SUPER.true))

pub returns : goal.returns
unfolding child
returns c =
    let node = granted c.is_node.ensures c.if-not-is_node.false in
    let a = c.args in
    let here = ap (λ (es : List Edge). child_of es a.nx a.id) (node_held _ _ _ _ node) in
    ap Done (c.child.ensures ∙ here)
    ∙ at_true _ _ (holds_both node (name _ c.if-id-eq-SUPER.false))
