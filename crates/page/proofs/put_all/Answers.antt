-- What the search leaves. Assumes nothing.
use lib.ListN.{drop_of_length-le}
use Rattle.page.proofs.Laying.{goes_on, all_laid}
use Rattle.page.proofs.Rests.{next_byte}
use Rattle.page.proofs.put_all.Goals as goal

pub loop-byte-preserved : goal.loop-byte-preserved
loop-byte-preserved c =
    goes_on _ _ _ _ c.loop-byte.invariant _ _ (next_byte _ _ c.loop-byte-test.true) _ _ c.put-at.ensures

pub returns : goal.returns
returns c = all_laid _ _ _ _ c.loop-byte.invariant (drop_of_length-le _ c.loop-byte-test.false)
