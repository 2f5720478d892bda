-- What the search leaves. Assumes nothing.
use mathlib.Core.Path.{◌∙◌}
use native.Mathlib.Omega.{arith}
use Rattle.index.proofs.Laws.{indexless, index_more}
use Rattle.index.proofs.of.Goals as goal

pub loop-i-init : goal.loop-i-init
loop-i-init c = indexless _

pub loop-i-preserved : goal.loop-i-preserved
loop-i-preserved c =
    c.add.ensures ∙ index_more _ _ (omega (arith, c.loop-i-test.true, c.at_most-i-end.ensures)) c.edge_at.ensures c.loop-i.invariant
