-- What a call on a tape answers: its value, or a fault. "Tape refusals carry the offset of the record at fault".
-- Assumes nothing: these are definitions.
use Rattle.std.specs.Prelude.{ℕ, List, []}

pub data AnswerAt (A : Type 0) : Type 0 where
  Fine : A → AnswerAt A
  Fault : (number at : ℕ) → AnswerAt A

-- an answer whose value is handed over in another form
abbrev pub mapped : {A B : Type 0} → (A → B) → AnswerAt A → AnswerAt B
mapped f (Fine a) = Fine (f a)
mapped f (Fault n at) = Fault n at

-- what a further call makes of a value; a fault stays
abbrev pub and_then : {A B : Type 0} → AnswerAt A → (A → AnswerAt B) → AnswerAt B
and_then (Fine a) f = f a
and_then (Fault n at) f = Fault n at

-- the bytes that are handed over; none where there is a fault
abbrev pub part : AnswerAt (List ℕ) → List ℕ
part (Fine bs) = bs
part (Fault n at) = []
