-- The query, scope by scope. Assumes nothing.
use Rattle.std.proofs.Common.{sym, ◌∙◌, arith}
use Rattle.edges.proofs.Laws.{reached_node, reached_none}
use Rattle.soundness.proofs.Rooted.{chain_rest, chain_falls}
use Rattle.scopes.proofs.Laws as laws
use Rattle.scopes.proofs.+ask.Goals as goal

pub ask-requires : goal.ask-requires
ask-requires t c =
    let ends = c.requires in
    let up = reached_node c.parent.ensures c.in_ok-up.was in
    let shorter = chain_falls _ _ ends.1 ends.0 up in
    (omega (arith, shorter, c.decreases), (ends.0, (chain_rest _ _ ends.1 ends.0 up).0))

pub returns-in-Some : goal.returns-in-Some
returns-in-Some t c = sym (laws.query_here _ _ c.requires.1 _ (reached_node c.walk.ensures c.in-Some.is))

pub returns-then-has_super : goal.returns-then-has_super
returns-then-has_super t c =
    sym
    (laws.query_super _ _ c.requires.1 _ (reached_none c.walk.ensures c.in_default.is) (sym c.has_super.ensures ∙ c.if-has_super.true))

pub returns : goal.returns
returns t c =
    let not_here = reached_none c.walk.ensures c.in_default.is in
    let no_super = sym c.has_super.ensures ∙ c.if-has_super.false in
    let up = reached_node c.parent.ensures c.in_ok-up.was in
    c.ask.ensures ∙ sym (laws.query_up _ _ c.requires.1 _ c.requires.0 not_here no_super up)

pub returns-in_err-up : goal.returns-in_err-up
returns-in_err-up t c =
    let not_here = reached_none c.walk.ensures c.in_default.is in
    let no_super = sym c.has_super.ensures ∙ c.if-has_super.false in
    let top = reached_none c.parent.ensures c.in_err-up.was in
    c.from_residual.ensures ∙ sym (laws.query_top _ _ c.requires.1 _ not_here no_super top)
