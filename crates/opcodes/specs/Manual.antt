-- The MCS6500 programming manual's instructions: the thirteen addressing modes with their bytes, and for each mnemonic its
-- modes with their opcodes, in the order of its page. Then how document 01 writes a mode, and what a row of document 01 is.
-- Assumes nothing: these are definitions.
use Rattle.std.specs.Prelude.{ℕ, ◌-◌, Bool, true, false, ◌&&◌, ◌||◌, List, [], ◌∷◌, map, eqb, get_or}
use Rattle.opcodes.specs.declared.Form.{Form}

-- accumulator, immediate, zero page, zero page X, zero page Y, absolute, absolute X, absolute Y, implied, relative,
-- (indirect,X), (indirect),Y, absolute indirect
pub data Mode : Type 0 where
  acc imm zp zp_x zp_y abs abs_x abs_y imp rel ind_x ind_y ind : Mode

-- an instruction's bytes: the opcode, and the operand behind it
abbrev pub bytes : Mode → ℕ
bytes acc = 1
bytes imm = 2
bytes zp = 2
bytes zp_x = 2
bytes zp_y = 2
bytes abs = 3
bytes abs_x = 3
bytes abs_y = 3
bytes imp = 1
bytes rel = 2
bytes ind_x = 2
bytes ind_y = 2
bytes ind = 3

pub data Mnemonic : Type 0 where
  ADC AND ASL BCC BCS BEQ BIT BMI BNE BPL BRK BVC BVS CLC CLD CLI CLV CMP CPX CPY DEC DEX DEY EOR INC INX INY JMP : Mnemonic
  JSR LDA LDX LDY LSR NOP ORA PHA PHP PLA PLP ROL ROR RTI RTS SBC SEC SED SEI STA STX STY TAX TAY TSX TXA TXS TYA : Mnemonic

-- a mode of a mnemonic, and its opcode
infix 70 ◌is◌
pub data Entry : Type 0 where
  ◌is◌ : Mode → ℕ → Entry

-- the manual's page of each mnemonic
abbrev pub page : Mnemonic → List Entry
page ADC = imm is 0x69 ∷ zp is 0x65 ∷ zp_x is 0x75 ∷ abs is 0x6d ∷ abs_x is 0x7d ∷ abs_y is 0x79 ∷ ind_x is 0x61 ∷ ind_y is 0x71 ∷ []
page AND = imm is 0x29 ∷ zp is 0x25 ∷ zp_x is 0x35 ∷ abs is 0x2d ∷ abs_x is 0x3d ∷ abs_y is 0x39 ∷ ind_x is 0x21 ∷ ind_y is 0x31 ∷ []
page ASL = acc is 0x0a ∷ zp is 0x06 ∷ zp_x is 0x16 ∷ abs is 0x0e ∷ abs_x is 0x1e ∷ []
page BCC = rel is 0x90 ∷ []
page BCS = rel is 0xb0 ∷ []
page BEQ = rel is 0xf0 ∷ []
page BIT = zp is 0x24 ∷ abs is 0x2c ∷ []
page BMI = rel is 0x30 ∷ []
page BNE = rel is 0xd0 ∷ []
page BPL = rel is 0x10 ∷ []
page BRK = imp is 0x00 ∷ []
page BVC = rel is 0x50 ∷ []
page BVS = rel is 0x70 ∷ []
page CLC = imp is 0x18 ∷ []
page CLD = imp is 0xd8 ∷ []
page CLI = imp is 0x58 ∷ []
page CLV = imp is 0xb8 ∷ []
page CMP = imm is 0xc9 ∷ zp is 0xc5 ∷ zp_x is 0xd5 ∷ abs is 0xcd ∷ abs_x is 0xdd ∷ abs_y is 0xd9 ∷ ind_x is 0xc1 ∷ ind_y is 0xd1 ∷ []
page CPX = imm is 0xe0 ∷ zp is 0xe4 ∷ abs is 0xec ∷ []
page CPY = imm is 0xc0 ∷ zp is 0xc4 ∷ abs is 0xcc ∷ []
page DEC = zp is 0xc6 ∷ zp_x is 0xd6 ∷ abs is 0xce ∷ abs_x is 0xde ∷ []
page DEX = imp is 0xca ∷ []
page DEY = imp is 0x88 ∷ []
page EOR = imm is 0x49 ∷ zp is 0x45 ∷ zp_x is 0x55 ∷ abs is 0x4d ∷ abs_x is 0x5d ∷ abs_y is 0x59 ∷ ind_x is 0x41 ∷ ind_y is 0x51 ∷ []
page INC = zp is 0xe6 ∷ zp_x is 0xf6 ∷ abs is 0xee ∷ abs_x is 0xfe ∷ []
page INX = imp is 0xe8 ∷ []
page INY = imp is 0xc8 ∷ []
page JMP = abs is 0x4c ∷ ind is 0x6c ∷ []
page JSR = abs is 0x20 ∷ []
page LDA = imm is 0xa9 ∷ zp is 0xa5 ∷ zp_x is 0xb5 ∷ abs is 0xad ∷ abs_x is 0xbd ∷ abs_y is 0xb9 ∷ ind_x is 0xa1 ∷ ind_y is 0xb1 ∷ []
page LDX = imm is 0xa2 ∷ zp is 0xa6 ∷ zp_y is 0xb6 ∷ abs is 0xae ∷ abs_y is 0xbe ∷ []
page LDY = imm is 0xa0 ∷ zp is 0xa4 ∷ zp_x is 0xb4 ∷ abs is 0xac ∷ abs_x is 0xbc ∷ []
page LSR = acc is 0x4a ∷ zp is 0x46 ∷ zp_x is 0x56 ∷ abs is 0x4e ∷ abs_x is 0x5e ∷ []
page NOP = imp is 0xea ∷ []
page ORA = imm is 0x09 ∷ zp is 0x05 ∷ zp_x is 0x15 ∷ abs is 0x0d ∷ abs_x is 0x1d ∷ abs_y is 0x19 ∷ ind_x is 0x01 ∷ ind_y is 0x11 ∷ []
page PHA = imp is 0x48 ∷ []
page PHP = imp is 0x08 ∷ []
page PLA = imp is 0x68 ∷ []
page PLP = imp is 0x28 ∷ []
page ROL = acc is 0x2a ∷ zp is 0x26 ∷ zp_x is 0x36 ∷ abs is 0x2e ∷ abs_x is 0x3e ∷ []
page ROR = acc is 0x6a ∷ zp is 0x66 ∷ zp_x is 0x76 ∷ abs is 0x6e ∷ abs_x is 0x7e ∷ []
page RTI = imp is 0x40 ∷ []
page RTS = imp is 0x60 ∷ []
page SBC = imm is 0xe9 ∷ zp is 0xe5 ∷ zp_x is 0xf5 ∷ abs is 0xed ∷ abs_x is 0xfd ∷ abs_y is 0xf9 ∷ ind_x is 0xe1 ∷ ind_y is 0xf1 ∷ []
page SEC = imp is 0x38 ∷ []
page SED = imp is 0xf8 ∷ []
page SEI = imp is 0x78 ∷ []
page STA = zp is 0x85 ∷ zp_x is 0x95 ∷ abs is 0x8d ∷ abs_x is 0x9d ∷ abs_y is 0x99 ∷ ind_x is 0x81 ∷ ind_y is 0x91 ∷ []
page STX = zp is 0x86 ∷ zp_y is 0x96 ∷ abs is 0x8e ∷ []
page STY = zp is 0x84 ∷ zp_x is 0x94 ∷ abs is 0x8c ∷ []
page TAX = imp is 0xaa ∷ []
page TAY = imp is 0xa8 ∷ []
page TSX = imp is 0xba ∷ []
page TXA = imp is 0x8a ∷ []
page TXS = imp is 0x9a ∷ []
page TYA = imp is 0x98 ∷ []

-- document 01: "mnemonic 0..55 alphabetical"
abbrev pub mnemonics : List Mnemonic
mnemonics =
    ADC ∷ AND ∷ ASL ∷ BCC ∷ BCS ∷ BEQ ∷ BIT ∷ BMI ∷ BNE ∷ BPL ∷ BRK ∷ BVC ∷ BVS ∷ CLC ∷ CLD ∷ CLI ∷ CLV ∷ CMP ∷ CPX ∷
    CPY ∷ DEC ∷ DEX ∷ DEY ∷ EOR ∷ INC ∷ INX ∷ INY ∷ JMP ∷ JSR ∷ LDA ∷ LDX ∷ LDY ∷ LSR ∷ NOP ∷ ORA ∷ PHA ∷ PHP ∷ PLA ∷
    PLP ∷ ROL ∷ ROR ∷ RTI ∷ RTS ∷ SBC ∷ SEC ∷ SED ∷ SEI ∷ STA ∷ STX ∷ STY ∷ TAX ∷ TAY ∷ TSX ∷ TXA ∷ TXS ∷ TYA ∷ []

abbrev pub pages : List (List Entry)
pages = map page mnemonics

-- how document 01 writes a mode of the manual
pub record Written : Type 0 where
  pub mode : ℕ
  pub suffix : ℕ

abbrev pub how : ℕ → ℕ → Written
how mode suffix = record { mode = mode; suffix = suffix }

-- document 01: "mode 0 Implied, 1 Immediate, 2 AbsoluteOrZp, 3 Indirect, 4 OuterIndirect; suffix 0, 1 X, 2 Y"
abbrev pub written : Mode → Written
written acc = how 0 0
written imm = how 1 0
written zp = how 2 0
written zp_x = how 2 1
written zp_y = how 2 2
written abs = how 2 0
written abs_x = how 2 1
written abs_y = how 2 2
written imp = how 0 0
written rel = how 2 0
written ind_x = how 3 1
written ind_y = how 4 2
written ind = how 4 0

abbrev pub is_written : Mode → ℕ → ℕ → Bool
is_written k mode suffix = eqb (written k).mode mode && eqb (written k).suffix suffix

-- a list with one more in front, where the test holds
abbrev pub keep : {A : Type 0} → Bool → A → List A → List A
keep true a rest = a ∷ rest
keep false a rest = rest

-- how many operand bytes stand behind the opcode
abbrev pub operand_bytes : Mode → ℕ
operand_bytes k = bytes k - 1

abbrev pub form : ℕ → ℕ → Form
form opcode operand = record { opcode = opcode; operand = operand }

-- the forms of a page that are written so, in the page's order
abbrev pub forms_in : ℕ → ℕ → List Entry → List Form
forms_in mode suffix [] = []
forms_in mode suffix ((k is opcode) ∷ es) =
    keep (is_written k mode suffix) (form opcode (operand_bytes k)) (forms_in mode suffix es)

-- the forms of a mnemonic, mode and suffix, in the order tried; none where that is no row
unfoldable pub forms_of : ℕ → ℕ → ℕ → List Form
forms_of mnemonic mode suffix = forms_in mode suffix (get_or pages mnemonic [])

-- relative addressing: what branches have, and nothing else
abbrev pub is_relative : Mode → Bool
is_relative acc = false
is_relative imm = false
is_relative zp = false
is_relative zp_x = false
is_relative zp_y = false
is_relative abs = false
is_relative abs_x = false
is_relative abs_y = false
is_relative imp = false
is_relative rel = true
is_relative ind_x = false
is_relative ind_y = false
is_relative ind = false

-- a page has a relative mode that is written so
abbrev pub branch_in : ℕ → ℕ → List Entry → Bool
branch_in mode suffix [] = false
branch_in mode suffix ((k is opcode) ∷ es) = (is_relative k && is_written k mode suffix) || branch_in mode suffix es

-- whether a row is a branch
unfoldable pub is_branch : ℕ → ℕ → ℕ → Bool
is_branch mnemonic mode suffix = branch_in mode suffix (get_or pages mnemonic [])
