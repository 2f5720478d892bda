-- `int64::negative` meets its contract. Assumes nothing.
use Rattle.int64.proofs.Laws.{lt_zero}
use Rattle.std.proofs.Common.{to_z-of_z}
use Rattle.int64.proofs.negative.Goals as goal

pub returns : goal.returns
returns c = rw (to_z-of_z c.ranges.x) (lt_zero c.args.x)
