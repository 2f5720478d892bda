-- What the search leaves. Assumes nothing.
use Rattle.int64.proofs.Laws.{twice}
use Rattle.std.proofs.Common.{ℕ, ◌+◌, ◌*◌, ◌%◌, ◌^◌, sym, ap, ◌∙◌, mod-eq_of_lt, mul-one}
use Rattle.int64.proofs.doubled.Goals as goal

pub loop-i-init : goal.loop-i-init
loop-i-init c = sym (ap (λ (k : ℕ). k % 2 ^ 64) (mul-one c.args.w) ∙ mod-eq_of_lt c.ranges.w.fits)

pub loop-i-preserved : goal.loop-i-preserved
loop-i-preserved c = ap (λ (k : ℕ). (k + k) % 2 ^ 64) c.loop-i.invariant ∙ twice c.args.w c.loop-i.i
