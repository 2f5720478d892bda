-- What a call that is lent a pen leaves of it. Assumes nothing: this is a definition.
use Rattle.refusals.specs.Answer.{Answer, Done, Refused}
use Rattle.pen.specs.declared.Pen.{Pen}

-- what a call leaves of a pen: what it gives, or, where it is refused, the pen as it was
abbrev pub left : Pen → Answer Pen → Pen × Answer (Unit {0})
left p (Done q) = (q, Done tt)
left p (Refused n) = (p, Refused n)
