-- The stack without its first element. Assumes nothing.
use mathlib.Core.Path.{ap}
use native.Mathlib.Omega.{arith}
use Rattle.form.specs.Form.{pending}
use Rattle.form.specs.Steps.{places}
use Rattle.form.proofs.Stack.{pop, pop_past}
use Rattle.form.proofs.popped.Goals as goal

pub returns-then-from-lt-PLACES : goal.returns-then-from-lt-PLACES
returns-then-from-lt-PLACES c =
    let s = c.args.s in
    (ap (pending _) (pop s.depths s.from), record { within = omega arith; size = c.requires.size }, omega arith)

pub returns-else-from-lt-PLACES : goal.returns-else-from-lt-PLACES
returns-else-from-lt-PLACES c =
    let fit = c.requires in
    (ap (pending _) (pop_past _ _ places fit.size c.if-from-lt-PLACES.false), fit, omega (arith, fit.within))
