-- The tests, and then the look-up. Assumes nothing.
use mathlib.Core.List.{List}
use mathlib.Core.Path.{ap, ◌∙◌}
use borrow.Author.Tests.{le-leb, lt-leb}
use Rattle.refusals.specs.Answer.{Done}
use Rattle.refusals.proofs.Pick.{at_true, at_false, granted, denied}
use Rattle.scopes.specs.Scopes.{query_in}
use Rattle.edges.specs.declared.Edge.{Edge}
use Rattle.edges.specs.Edges.{query_of}
use Rattle.soundness.proofs.Nodes.{fails_first, fails_then, holds_both, node_held, ends_held}
use Rattle.scopes.proofs.query.Goals as goal

pub returns-then-not-is_node : goal.returns-then-not-is_node
unfolding query_in
returns-then-not-is_node c = at_false _ _ (fails_first _ (denied c.is_node.ensures c.if-not-is_node.true))

pub returns-then-path-gt-LONGEST : goal.returns-then-path-gt-LONGEST
unfolding query_in
returns-then-path-gt-LONGEST c =
    let node = granted c.is_node.ensures c.if-not-is_node.false in
    at_false _ _ (fails_then node (lt-leb _ _ c.if-path-gt-LONGEST.true))

pub ask-requires : goal.ask-requires
ask-requires c = ends_held _ _ _ _ (granted c.is_node.ensures c.if-not-is_node.false)

pub returns : goal.returns
unfolding query_in
returns c =
    let a = c.args in
    let node = granted c.is_node.ensures c.if-not-is_node.false in
    let here = ap (λ (es : List Edge). query_of es a.nx a.path.now) (node_held _ _ _ _ node) in
    ap Done (c.ask.ensures ∙ here)
    ∙ at_true _ _ (holds_both node (le-leb _ _ c.if-path-gt-LONGEST.false))
