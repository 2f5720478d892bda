-- The two tests, and then the look-up. Assumes nothing.
use mathlib.Core.List.{List}
use mathlib.Core.Path.{ap, ◌∙◌}
use borrow.Author.Tests.{le-leb, lt-leb}
use Rattle.refusals.specs.Answer.{Done}
use Rattle.refusals.proofs.Pick.{at_true, at_false}
use Rattle.scopes.specs.Scopes.{query_edges}
use Rattle.edges.specs.declared.Edge.{Edge}
use Rattle.edges.specs.Edges.{query_of}
use Rattle.edges.proofs.Laws.{all_held}
use Rattle.soundness.proofs.Nodes.{fails_first, fails_then, holds_both}
use Rattle.scopes.proofs.query_edges.Goals as goal

pub returns-then-n-gt-EDGES : goal.returns-then-n-gt-EDGES
unfolding query_edges
returns-then-n-gt-EDGES c = at_false _ _ (fails_first _ (lt-leb _ _ c.if-n-gt-EDGES.true))

pub returns-then-path-gt-LONGEST : goal.returns-then-path-gt-LONGEST
unfolding query_edges
returns-then-path-gt-LONGEST c = at_false _ _ (fails_then (le-leb _ _ c.if-n-gt-EDGES.false) (lt-leb _ _ c.if-path-gt-LONGEST.true))

pub returns : goal.returns
unfolding query_edges
returns c =
    let a = c.args in
    let here = ap (λ (es : List Edge). query_of es a.nx a.path.now) (all_held _ _ c.if-n-gt-EDGES.false) in
    ap Done (c.ask_any.ensures ∙ here)
    ∙ at_true _ _ (holds_both (le-leb _ _ c.if-n-gt-EDGES.false) (le-leb _ _ c.if-path-gt-LONGEST.false))
