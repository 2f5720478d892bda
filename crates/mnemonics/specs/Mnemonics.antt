-- The mnemonics, as a listing writes them. Document 01: "mnemonic as three capital letters (--- for data)". Assumes nothing: these are
-- definitions.
use Rattle.std.specs.Prelude.{ℕ, List, map, get_or}
use Prim.Native.String.{String}
use Rattle.opcodes.specs.Manual.{Mnemonic, mnemonics}
use Rattle.opcodes.specs.Manual.{ADC, AND, ASL, BCC, BCS, BEQ, BIT, BMI, BNE, BPL, BRK, BVC, BVS, CLC, CLD, CLI, CLV, CMP, CPX}
use Rattle.opcodes.specs.Manual.{CPY, DEC, DEX, DEY, EOR, INC, INX, INY, JMP, JSR, LDA, LDX, LDY, LSR, NOP, ORA, PHA, PHP, PLA}
use Rattle.opcodes.specs.Manual.{PLP, ROL, ROR, RTI, RTS, SBC, SEC, SED, SEI, STA, STX, STY, TAX, TAY, TSX, TXA, TXS, TYA}

-- the three letters of a mnemonic
abbrev pub letters : Mnemonic → String
letters ADC = "ADC"
letters AND = "AND"
letters ASL = "ASL"
letters BCC = "BCC"
letters BCS = "BCS"
letters BEQ = "BEQ"
letters BIT = "BIT"
letters BMI = "BMI"
letters BNE = "BNE"
letters BPL = "BPL"
letters BRK = "BRK"
letters BVC = "BVC"
letters BVS = "BVS"
letters CLC = "CLC"
letters CLD = "CLD"
letters CLI = "CLI"
letters CLV = "CLV"
letters CMP = "CMP"
letters CPX = "CPX"
letters CPY = "CPY"
letters DEC = "DEC"
letters DEX = "DEX"
letters DEY = "DEY"
letters EOR = "EOR"
letters INC = "INC"
letters INX = "INX"
letters INY = "INY"
letters JMP = "JMP"
letters JSR = "JSR"
letters LDA = "LDA"
letters LDX = "LDX"
letters LDY = "LDY"
letters LSR = "LSR"
letters NOP = "NOP"
letters ORA = "ORA"
letters PHA = "PHA"
letters PHP = "PHP"
letters PLA = "PLA"
letters PLP = "PLP"
letters ROL = "ROL"
letters ROR = "ROR"
letters RTI = "RTI"
letters RTS = "RTS"
letters SBC = "SBC"
letters SEC = "SEC"
letters SED = "SED"
letters SEI = "SEI"
letters STA = "STA"
letters STX = "STX"
letters STY = "STY"
letters TAX = "TAX"
letters TAY = "TAY"
letters TSX = "TSX"
letters TXA = "TXA"
letters TXS = "TXS"
letters TYA = "TYA"

-- in the order of their numbers
abbrev pub names : List String
names = map letters mnemonics

-- "--- for data"
abbrev pub dashes : String
dashes = "---"

-- the mnemonic of a number; of any other, dashes
unfoldable pub name_of : ℕ → String
name_of mnemonic = get_or names mnemonic dashes
