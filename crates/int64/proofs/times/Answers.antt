-- `int64::times` meets its contract: a product beyond 2 ^ 64 is beyond i64 too. Assumes nothing.
use Rattle.int64.proofs.Laws.{signed_out}
use Rattle.std.proofs.Common.{div-lt_iff_lt-mul, pos_of_ne-zero, mul-zero, le-div_iff_mul-le, arith}
use Rattle.int64.proofs.times.Goals as goal

pub overflow_mul-x : goal.overflow_mul-x
overflow_mul-x c = omega (arith, (le-div_iff_mul-le (pos_of_ne-zero c.if-y-eq0.false)).0 c.if-x-y.true)

pub returns-then-y-eq0 : goal.returns-then-y-eq0
returns-then-y-eq0 c = simp (c.if-y-eq0.true, mul-zero) c.join.ensures

pub returns-else-x-y : goal.returns-else-x-y
returns-else-x-y c = signed_out c.args.below _ (omega (arith, (div-lt_iff_lt-mul (pos_of_ne-zero c.if-y-eq0.false)).0 c.if-x-y.false))
