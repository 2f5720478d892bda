-- What was written lies in the image. Assumes nothing.
use Rattle.verdict.proofs.Judging.{range_inside}
use Rattle.verdict.proofs.judge.Goals as goal

pub compare-requires : goal.compare-requires
compare-requires c = range_inside _ _ _ _ _ _ _ c.in_ok-written.ensures.0 c.in_ok-written.ensures.1
