-- How the code packs the manual: for each mnemonic a word of shapes and a word of opcodes. Assumes nothing: these are definitions.
use Rattle.std.specs.Prelude.{ℕ, ◌+◌, ◌-◌, ◌*◌, ◌/◌, ◌%◌, ◌^◌, List, [], ◌∷◌, map, get_or}
use Rattle.opcodes.specs.declared.Form.{Form}
use Rattle.opcodes.specs.Manual.{Entry, Written, how, forms_in, pages}
use Rattle.opcodes.specs.Census.{below}

-- the number that has these digits, the lowest first
abbrev number : ℕ → List ℕ → ℕ
number base [] = 0
number base (d ∷ ds) = d + base * number base ds

-- the digit of a column; the last of the 15 columns, one for each mode and suffix, stands lowest
abbrev pub digit_of : ℕ → ℕ → ℕ
digit_of word column = word / 2 ^ (4 * (14 - column)) % 16

-- ---- shapes

-- 0 no form; 1, 2, 3 one form, of no, one, two operand bytes; 4 two forms
abbrev shape_of : List Form → ℕ
shape_of [] = 0
shape_of (f ∷ []) = 1 + f.operand
shape_of (f ∷ g ∷ fs) = 4

-- a digit for each mode and suffix
abbrev pub shapes_in : List Entry → ℕ
shapes_in es = number 16 (below (λ (k : ℕ). shape_of (forms_in (k / 3) (k % 3) es)) 15)

unfoldable pub shapes_of : ℕ → ℕ
shapes_of mnemonic = shapes_in (get_or pages mnemonic [])

-- ---- opcodes

-- the first form's
abbrev opcode_of : List Form → ℕ
opcode_of [] = 0
opcode_of (f ∷ fs) = f.opcode

-- a byte for each mode and suffix that rows have
abbrev pub opcodes_in : List Entry → ℕ
opcodes_in es =
    number 256
    (map (λ (w : Written). opcode_of (forms_in w.mode w.suffix es))
    (how 4 2 ∷ how 4 0 ∷ how 3 1 ∷ how 2 2 ∷ how 2 1 ∷ how 2 0 ∷ how 1 0 ∷ how 0 0 ∷ []))

unfoldable pub opcodes_of : ℕ → ℕ
opcodes_of mnemonic = opcodes_in (get_or pages mnemonic [])
