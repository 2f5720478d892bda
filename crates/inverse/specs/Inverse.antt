-- The manual turned round. Document 01: "the inverse, a table of 256 entries from opcode byte to row and operand length, or to "none"
-- for 105 bytes". Assumes nothing: these are definitions.
use Rattle.std.specs.Prelude.{List, [], ◌∷◌, ℕ, suc, eqb}
use Rattle.opcodes.specs.Manual.{Entry, ◌is◌, pages, written, operand_bytes, keep}
use Rattle.inverse.specs.declared.Row.{Row}

-- a row, with how many operand bytes stand behind its opcode
abbrev pub row : ℕ → ℕ → ℕ → ℕ → Row
row mnemonic mode suffix operand = record { mnemonic = mnemonic; mode = mode; suffix = suffix; operand = operand }

-- the rows of a page that have this opcode, before others
abbrev pub rows_in : ℕ → ℕ → List Entry → List Row → List Row
rows_in opcode mnemonic [] rows = rows
rows_in opcode mnemonic ((k is op) ∷ es) rows =
    keep (eqb op opcode) (row mnemonic (written k).mode (written k).suffix (operand_bytes k)) (rows_in opcode mnemonic es rows)

-- the same of all pages, the first of them the mnemonic's
abbrev pub rows_from : ℕ → ℕ → List (List Entry) → List Row
rows_from opcode mnemonic [] = []
rows_from opcode mnemonic (p ∷ ps) = rows_in opcode mnemonic p (rows_from opcode (suc mnemonic) ps)

-- the inverse: the rows that have this opcode, each with its operand length; none for a byte that is no opcode
unfoldable pub rows_of : ℕ → List Row
rows_of opcode = rows_from opcode 0 pages
