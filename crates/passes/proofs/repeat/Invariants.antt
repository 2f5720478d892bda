-- Before each pass none of those before it has repeated. Assumes nothing.
use Rattle.form.specs.Statements.{statements}
use Rattle.walk.specs.Walk.{origin}
use Rattle.walk.specs.Numbers.{reads_noted}
use Rattle.passes.proofs.Repeating.{Tried}
use Rattle.passes.proofs.repeat.Given as goal

abbrev pub invariant-loop-n : goal.invariant-loop-n
invariant-loop-n l = Tried (reads_noted l.tape l.nodes) (statements l.tape) (origin l.fn.initial) l.numbers l.n
