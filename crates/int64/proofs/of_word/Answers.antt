-- `int64::of_word` meets its contract: a word of 2 ^ 63 or more is flipped twice. Assumes nothing.
use Rattle.std.proofs.Common.{◌≡◌, ◌-◌, ap, arith, w64, to_z}
use Rattle.int64.proofs.of_word.Goals as goal

pub returns-else-w-lt-HALF : goal.returns-else-w-lt-HALF
returns-else-w-lt-HALF c = let e : 18446744073709551615 - (18446744073709551615 - c.args.w) ≡ c.args.w = omega (arith, c.ranges.w.fits) in ap (to_z w64) e
