-- What bytes stand for: the row of the first byte, and the operand that the bytes behind it make.
-- Assumes nothing: these are definitions.
use Rattle.std.specs.Prelude.{ℕ, List, [], ◌∷◌, leb, length, take}
use Rattle.refusals.specs.Answer.{Answer, Done, Refused, pick}
use Rattle.refusals.specs.Table.{no_row, cut_short}
use Rattle.little.specs.Little.{number}
use Rattle.inverse.specs.declared.Row.{Row}
use Rattle.inverse.specs.declared.Instruction.{Instruction}
use Rattle.inverse.specs.Inverse.{rows_of}

-- "'none': 6; too few bytes: 7"; bytes behind the operand's are ignored
abbrev pub decode_row : List Row → List ℕ → Answer Instruction
decode_row [] bs = Refused no_row
decode_row (r ∷ rs) bs =
    pick (leb r.operand (length bs)) (Done (record { row = r; operand = number (take r.operand bs) })) (Refused cut_short)

-- no byte at all is too few
unfoldable pub decode_of : List ℕ → Answer Instruction
decode_of [] = Refused cut_short
decode_of (opcode ∷ bs) = decode_row (rows_of opcode) bs
