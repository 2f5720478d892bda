-- What an instruction's bytes are: document 01's rule for a row's forms and an operand.
-- Assumes nothing: these are definitions.
use Rattle.std.specs.Prelude.{ℕ, zero, suc, ◌+◌, ◌/◌, ◌%◌, ◌^◌, Bool, true, ◌&&◌, List, [], ◌∷◌, eqb, ltb, ℤ, pos, length, get_or}
use Rattle.std.specs.Int.Signed.{lt_z}
use Rattle.refusals.specs.Answer.{Answer, Done, Refused, pick}
use Rattle.refusals.specs.Table.{argument, no_row, too_small}
use Rattle.int64.specs.Num.{mod_z}
use Rattle.opcodes.specs.declared.Form.{Form}
use Rattle.opcodes.specs.declared.Code.{Code}
use Rattle.opcodes.specs.Manual.{forms_of}

-- ---- a form

-- "An instruction is as long as its form": the opcode and the operand bytes
abbrev pub length_of : Form → ℕ
length_of f = 1 + f.operand

-- "zero-byte always, one-byte if the operand is below 256, two-byte always"
unfoldable pub takes : Form → ℤ → Bool
takes f z = pick (eqb f.operand 1) (lt_z z (pos 256)) true

-- a number's n bytes, "low first"
abbrev pub low_first : ℕ → ℕ → List ℕ
low_first zero x = []
low_first (suc n) x = x % 256 ∷ low_first n (x / 256)

-- the opcode, and "the operand's low 8 or 16 bits, low first"
unfoldable pub bytes_of : Form → ℤ → List ℕ
bytes_of f z = f.opcode ∷ low_first f.operand (mod_z (256 ^ f.operand) z)

-- ---- a row

-- "Forms are tried in the row's order"; "only a one-byte form and operand 256 or more: 12"
abbrev pub tried : List Form → ℤ → Answer (List ℕ)
tried [] z = Refused too_small
tried (f ∷ fs) z = pick (takes f z) (Done (bytes_of f z)) (tried fs z)

-- "No row: refusal 6"
abbrev pub encode_forms : List Form → ℤ → Answer (List ℕ)
encode_forms [] z = Refused no_row
encode_forms (f ∷ fs) z = tried (f ∷ fs) z

-- "mnemonic 0..55", mode 0 to 4, suffix 0 to 2
unfoldable pub in_range : ℕ → ℕ → ℕ → Bool
in_range mnemonic mode suffix = ltb mnemonic 56 && (ltb mode 5 && ltb suffix 3)

-- a number out of its range: 1, tested first
unfoldable pub encode_of : ℕ → ℕ → ℕ → ℤ → Answer (List ℕ)
encode_of mnemonic mode suffix z =
    pick (in_range mnemonic mode suffix) (encode_forms (forms_of mnemonic mode suffix) z) (Refused argument)

-- ---- how the code hands the bytes over

-- how many bytes, and the bytes, zero behind them
abbrev pub code : List ℕ → Code
code bs = record { len = length bs; b0 = get_or bs 0 0; b1 = get_or bs 1 0; b2 = get_or bs 2 0 }
