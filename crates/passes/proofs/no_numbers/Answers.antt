-- Two arrays of the same, all through. Assumes nothing.
use mathlib.Core.Path.{refl}
use Rattle.walk.specs.Numbers.{numbers_by}
use Rattle.passes.proofs.no_numbers.Goals as goal

pub returns : goal.returns
unfolding numbers_by
returns c = refl
