-- What the search leaves. Assumes nothing.
use mathlib.Core.Path.{sym, ◌∙◌}
use native.Mathlib.Omega.{arith}
use Rattle.index.proofs.Laws as laws
use Rattle.index.proofs.child.Goals as goal

pub loop-turn-init : goal.loop-turn-init
loop-turn-init c =
    laws.among_all _ _ _ _ _ c.bucket.ensures c.wide-k.ensures (omega arith)

pub returns-then-k-eq0 : goal.returns-then-k-eq0
returns-then-k-eq0 c = sym (c.loop-turn.invariant ∙ laws.among_none _ _ _ _ _ c.if-k-eq0.true)

pub returns-then-is_named : goal.returns-then-is_named
returns-then-is_named c =
    let named = sym c.is_named.ensures ∙ c.if-is_named.true in
    sym (c.loop-turn.invariant ∙ laws.among_here _ _ _ _ (omega arith) c.if-k-eq0.false c.edge_at-edge.ensures named)

pub loop-turn-preserved : goal.loop-turn-preserved
loop-turn-preserved c =
    let other = sym c.is_named.ensures ∙ c.if-is_named.false in
    c.loop-turn.invariant
    ∙ laws.among_on _ _ _ _ (omega arith) c.if-k-eq0.false c.edge_at-edge.ensures other c.older-k.ensures (omega arith)

pub returns : goal.returns
returns c = sym (c.loop-turn.invariant ∙ laws.among_out _ _ _ _ _ _ (omega arith))
