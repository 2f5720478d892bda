-- What the search leaves. Assumes nothing.
use mathlib.Core.Path.{refl, sym, ◌∙◌}
use Rattle.edges.specs.Edges.{chain, query_of}
use Rattle.edges.proofs.Laws.{reached_node, reached_none}
use Rattle.scopes.proofs.Laws as laws
use Rattle.scopes.proofs.ask_any.Goals as goal

pub loop-left-init : goal.loop-left-init
unfolding query_of chain
loop-left-init c = refl

pub returns-in-Some : goal.returns-in-Some
returns-in-Some c =
    let kept = c.loop-left.invariant in
    let here = reached_node c.walk.ensures c.in-Some.is in
    sym (sym kept ∙ laws.any_here _ _ _ _ c.loop-left-test.true here)

pub returns-then-has_super : goal.returns-then-has_super
returns-then-has_super c =
    let kept = c.loop-left.invariant in
    let not_here = reached_none c.walk.ensures c.in_default.is in
    sym (sym kept ∙ laws.any_super _ _ _ _ c.loop-left-test.true not_here (sym c.has_super.ensures ∙ c.if-has_super.true))

pub returns-in_err-at : goal.returns-in_err-at
returns-in_err-at c =
    let kept = c.loop-left.invariant in
    let not_here = reached_none c.walk.ensures c.in_default.is in
    let no-super = sym c.has_super.ensures ∙ c.if-has_super.false in
    let top = reached_none c.parent.ensures c.in_err-at.was in
    c.from_residual.ensures ∙ sym (sym kept ∙ laws.any_top _ _ _ _ c.loop-left-test.true not_here no-super top)

pub loop-left-preserved : goal.loop-left-preserved
loop-left-preserved c =
    let kept = c.loop-left.invariant in
    let not_here = reached_none c.walk.ensures c.in_default.is in
    let no-super = sym c.has_super.ensures ∙ c.if-has_super.false in
    let up = reached_node c.parent.ensures c.in_ok-at.was in
    sym (laws.any_up _ _ _ _ c.loop-left-test.true not_here no-super up) ∙ kept

pub returns : goal.returns
returns c = sym (sym c.loop-left.invariant ∙ laws.any_none _ _ _ _ c.loop-left-test.false)
