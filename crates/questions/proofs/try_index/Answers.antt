-- The tests, and then the look-up. Assumes nothing.
use mathlib.Core.List.{List}
use mathlib.Core.Path.{ap, ◌∙◌}
use borrow.Author.Tests.{le-leb, lt-leb}
use Rattle.refusals.specs.Answer.{Done}
use Rattle.refusals.proofs.Pick.{at_true, at_false, granted, denied}
use Rattle.symbols.specs.Symbols.{try_index}
use Rattle.edges.specs.declared.Edge.{Edge}
use Rattle.edges.specs.Edges.{walk_of}
use Rattle.soundness.proofs.Nodes.{fails_first, fails_then, holds_both, node_held}
use Rattle.questions.proofs.try_index.Goals as goal

pub returns-then-not-is_node : goal.returns-then-not-is_node
unfolding try_index
returns-then-not-is_node c = at_false _ _ (fails_first _ (denied c.is_node.ensures c.if-not-is_node.true))

pub returns-then-path-gt-LONGEST : goal.returns-then-path-gt-LONGEST
unfolding try_index
returns-then-path-gt-LONGEST c =
    let node = granted c.is_node.ensures c.if-not-is_node.false in
    at_false _ _ (fails_then node (lt-leb _ _ c.if-path-gt-LONGEST.true))

pub returns : goal.returns
unfolding try_index
returns c =
    let node = granted c.is_node.ensures c.if-not-is_node.false in
    let a = c.args in
    let here = ap (λ (es : List Edge). walk_of es a.path.now a.nx) (node_held _ _ _ _ node) in
    ap Done (c.walk.ensures ∙ here)
    ∙ at_true _ _ (holds_both node (le-leb _ _ c.if-path-gt-LONGEST.false))
