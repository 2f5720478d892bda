-- What the search leaves. Assumes nothing.
use mathlib.Core.Path.{sym, ◌∙◌}
use Rattle.index.proofs.Laws as laws
use Rattle.index.proofs.has_super.Goals as goal

pub returns-then-id_at-eq-SUPER : goal.returns-then-id_at-eq-SUPER
returns-then-id_at-eq-SUPER c =
    sym (c.loop-i.invariant ∙ laws.super_here _ _ _ c.loop-i-test.true c.id_at.ensures c.if-id_at-eq-SUPER.true)

pub loop-i-preserved : goal.loop-i-preserved
loop-i-preserved c =
    c.loop-i.invariant ∙ laws.super_later _ _ _ c.loop-i-test.true c.id_at.ensures c.if-id_at-eq-SUPER.false

pub returns : goal.returns
returns c = sym (c.loop-i.invariant ∙ laws.super_none _ _ _ c.loop-i-test.false)
