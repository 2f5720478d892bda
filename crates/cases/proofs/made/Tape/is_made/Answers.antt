-- What the search leaves. Assumes nothing.
use Rattle.cases.proofs.Tapes.{end_in}
use Rattle.cases.proofs.made.Tape.is_made.Goals as goal

pub invariant_of-self : goal.invariant_of-self
invariant_of-self g c = end_in _ _ _ _ c.self.told c.self.invariant c.put_tape-self-inside.ensures
