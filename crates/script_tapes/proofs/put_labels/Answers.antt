-- What the search leaves. Assumes nothing.
use Rattle.page.proofs.Laying.{goes_on, all_laid}
use Rattle.script_tapes.proofs.Making.{next_label, no_label}
use Rattle.script_tapes.proofs.put_labels.Goals as goal

pub loop-id-preserved : goal.loop-id-preserved
loop-id-preserved c =
    let parts = next_label _ _ c.loop-id.auto.id c.loop-id-test.true in
    goes_on _ _ _ _ c.loop-id.invariant _ _ parts _ _ c.put_label-at.ensures

pub returns : goal.returns
returns c = all_laid _ _ _ _ c.loop-id.invariant (no_label _ _ c.loop-id-test.false)
