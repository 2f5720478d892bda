-- The digit that it reads is the size of the kind. Assumes nothing.
use native.Mathlib.Omega.{arith}
use Rattle.tape.proofs.Packed.{size_read}
use Rattle.tape.proofs.size.Goals as goal

pub returns : goal.returns
returns c = size_read c.args.kind (omega arith) c.sizes.ensures
