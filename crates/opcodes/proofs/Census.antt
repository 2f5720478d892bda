-- The manual has the rows and opcodes that document 01 counts: one test, which antt computes. Assumes nothing.
use mathlib.Core.Path.{refl}
use Rattle.opcodes.specs.Manual.{forms_of}
use Rattle.opcodes.specs.Census.{Counted}

pub census : Counted
unfolding forms_of
census = refl
