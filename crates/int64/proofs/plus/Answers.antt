-- `int64::plus` meets its contract: a sum beyond 2 ^ 64 is beyond i64 too. Assumes nothing.
use Rattle.int64.proofs.Laws.{signed_out}
use Rattle.std.proofs.Common.{arith}
use Rattle.int64.proofs.plus.Goals as goal

pub returns-else-x-y : goal.returns-else-x-y
returns-else-x-y c = signed_out c.args.below _ (omega arith)
