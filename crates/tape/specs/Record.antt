-- What stands at an offset of a tape: one record, or what is wrong there. Assumes nothing: these are definitions.
use Rattle.std.specs.Prelude.{ℕ, List, [], ◌∷◌, leb, eqb, length, take, drop}
use Rattle.refusals.specs.Answer.{pick}
use Rattle.refusals.specs.AnswerAt.{AnswerAt, Fine, Fault, part}
use Rattle.refusals.specs.Table.{bad_record, cut_short}
use Rattle.tape.specs.Kinds.{size_of}

-- the bytes of the record that begins what is left of a tape of `len` bytes at the offset `at`. "A missing record: 7 at the
-- tape's length"; at a record: kind 5, cut short 7
abbrev pub record_of : ℕ → ℕ → List ℕ → AnswerAt (List ℕ)
record_of len at [] = Fault cut_short len
record_of len at (k ∷ rest) =
    pick (eqb (size_of k) 0) (Fault bad_record at)
    (pick (leb (size_of k) (length (k ∷ rest))) (Fine (take (size_of k) (k ∷ rest)))
    (Fault cut_short at))

-- the record at an offset
unfoldable pub record_at : List ℕ → ℕ → AnswerAt (List ℕ)
record_at tape at = record_of (length tape) at (drop at tape)

-- "The bytes of one record": none where no whole record stands
abbrev pub bytes_at : List ℕ → ℕ → List ℕ
bytes_at tape at = part (record_at tape at)
