-- What the search leaves. Assumes nothing.
use mathlib.Core.Path.{sym, ◌∙◌}
use native.Mathlib.Omega.{arith}
use Rattle.edges.proofs.Laws.{edge_here}
use Rattle.soundness.proofs.Sound.{last_bad, last_good, no_edges}
use Rattle.soundness.proofs.edges_fit.Goals as goal

pub returns-then-not-edge_fits : goal.returns-then-not-edge_fits
returns-then-not-edge_fits c =
    let more = c.loop-i-test.true in
    let bad = last_bad _ _ more (edge_here _ _ (omega arith) c.edge_at.ensures) c.edge_fits.ensures c.if-not-edge_fits.true in
    sym (c.loop-i.invariant ∙ bad)

pub loop-i-preserved : goal.loop-i-preserved
loop-i-preserved c =
    let more = c.loop-i-test.true in
    let good = last_good _ _ more (edge_here _ _ (omega arith) c.edge_at.ensures) c.edge_fits.ensures c.if-not-edge_fits.false in
    c.loop-i.invariant ∙ good

pub returns : goal.returns
returns c = sym (c.loop-i.invariant ∙ no_edges _ _ _ c.loop-i-test.false)
