-- What the search leaves. Assumes nothing.
use mathlib.Core.Path.{sym, ap, ◌∙◌}
use native.Mathlib.Omega.{arith}
use lib.ListN.{length}
use Rattle.lookup.proofs.Notes.{noting_start, noting_on, noting_done, noting_past}
use Rattle.evaluator.proofs.Meanings.{ends}
use Rattle.evaluator.proofs.resolve.Goals as goal

pub loop-at-init : goal.loop-at-init
loop-at-init c = noting_start _ _ _ _ _

pub returns-then-rec-eq0 : goal.returns-then-rec-eq0
returns-then-rec-eq0 c =
    let kept = c.loop-at.invariant in
    noting_done _ _ _ _ _ kept (ap length (sym c.record-rec.ensures) ∙ c.if-rec-eq0.true)

pub overflow_add-at : goal.overflow_add-at
overflow_add-at c =
    omega (arith, ends _ _ c.record-rec.ensures (omega (arith, c.loop-at-test.true)) (omega arith))

pub loop-at-smaller : goal.loop-at-smaller
loop-at-smaller c =
    omega (arith, c.if-rec-eq0.false, c.loop-at-test.true)

pub loop-at-preserved : goal.loop-at-preserved
loop-at-preserved c =
    noting_on _ _ _ _ _ c.loop-at.invariant c.loop-at-test.true
    c.record-rec.ensures c.if-rec-eq0.false c.note.ensures

pub returns : goal.returns
returns c = noting_past _ _ _ _ _ c.loop-at.invariant c.loop-at-test.false
