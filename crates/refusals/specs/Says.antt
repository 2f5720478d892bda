-- What each case of an answer says in document 01's terms. Assumes nothing: these are definitions.
use Rattle.std.specs.Prelude.{ℕ, Result, Ok, Err}
use Rattle.refusals.specs.Answer.{Answer, Done, Refused}
use Rattle.refusals.specs.AnswerAt.{AnswerAt, Fine, Fault}
use Rattle.refusals.specs.Table as table
use Rattle.refusals.specs.declared.Refusal as R
use Rattle.refusals.specs.declared.Refusal.TheVariants as why
use Rattle.refusals.specs.declared.Fault as F

-- the number of a refusal in the table
abbrev pub number_of : R.Refusal → ℕ
number_of why.Argument = table.argument
number_of why.NoRoom = table.no_room
number_of why.NameTaken = table.name_taken
number_of why.Loop = table.loop
number_of why.BadRecord = table.bad_record
number_of why.NoRow = table.no_row
number_of why.CutShort = table.cut_short
number_of why.Unpaired = table.unpaired
number_of why.TooDeep = table.too_deep
number_of why.Arithmetic = table.arithmetic
number_of why.Unresolved = table.unresolved
number_of why.TooSmall = table.too_small
number_of why.Moved = table.moved
number_of why.TooFar = table.too_far
number_of why.Outside = table.outside
number_of why.NotSettled = table.not_settled
number_of why.NumberDiffers = table.number_differs
number_of why.BytesDiffer = table.bytes_differ

-- a call's value, or the number of its refusal
abbrev pub says : {A : Type 0} → Result A R.Refusal → Answer A
says (Ok a) = Done a
says (Err e) = Refused (number_of e)

-- the same of a call on a tape, with the offset of the record at fault
abbrev pub says_at : {A : Type 0} → Result A F.Fault → AnswerAt A
says_at (Ok a) = Fine a
says_at (Err f) = Fault (number_of f.why) f.at
