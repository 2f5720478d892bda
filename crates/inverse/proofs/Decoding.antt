-- Laws of decoding: that no row has more than two operand bytes; a row's operand, by its bytes; and an instruction by its first byte.
-- Assumes nothing.
use mathlib.Core.Path.{◌≡◌}
use mathlib.Core.List.{List, [], ◌∷◌}
use Prim.Native.Nat.{ℕ, suc, ◌-◌, ◌<◌, ◌≤◌}
use native.Mathlib.Omega.{arith}
use lib.Dec.{eqb}
use lib.ListN.{length, get_or, take, drop}
use lib.Seq.{take_all}
use Rattle.std.specs.Prelude.{Option}
use Rattle.refusals.specs.Answer.{Answer}
use Rattle.refusals.specs.Each.{Each}
use Rattle.opcodes.specs.Manual.{Entry, ◌is◌, pages}
use Rattle.opcodes.proofs.Manual.{operand_limit, kept}
use Rattle.inverse.specs.declared.Row.{Row}
use Rattle.inverse.specs.declared.Instruction.{Instruction}
use Rattle.inverse.specs.Inverse.{rows_in, rows_from, rows_of}
use Rattle.inverse.specs.Decode.{decode_row, decode_of}
use Rattle.inverse.specs.Says.{listed}

-- ---- at most two operand bytes

abbrev pub short_row : Row → Type 0
short_row r = r.operand < 3

rows_in_lem : (opcode m : ℕ) (es : List Entry) (rows : List Row) → Each short_row rows → Each short_row (rows_in opcode m es rows)
rows_in_lem opcode m [] rows h = h
rows_in_lem opcode m ((k is op) ∷ es) rows h = kept short_row (eqb op opcode) _ _ (operand_limit k) (rows_in_lem opcode m es rows h)

rows_from_lem : (opcode m : ℕ) (ps : List (List Entry)) → Each short_row (rows_from opcode m ps)
rows_from_lem opcode m [] = tt
rows_from_lem opcode m (p ∷ ps) = rows_in_lem opcode m p _ (rows_from_lem opcode (suc m) ps)

short_rows : (opcode : ℕ) → Each short_row (rows_of opcode)
unfolding rows_of
short_rows opcode = rows_from_lem opcode 0 pages

-- ---- an instruction

-- what stands behind the first byte, as the code reads it
abbrev behind : List ℕ → List ℕ
behind bs = take (length bs - 1) (drop 1 bs)

first_byte : (bs : List ℕ) → 1 ≤ length bs → decode_of bs ≡ decode_row (rows_of (get_or bs 0 0)) (behind bs)
unfolding decode_of
first_byte [] n = absurd (omega arith)
first_byte (b ∷ bs) n = rw (take_all (suc (length bs) - 1) bs (omega arith))

-- the first byte's row is k
module _ {x k : Option Row} (p : x ≡ k) where
  pub of_row : (bs : List ℕ) {a : Answer Instruction} → 1 ≤ length bs → listed x ≡ rows_of (get_or bs 0 0)
      → a ≡ decode_row (listed k) (behind bs) → a ≡ decode_of bs
  of_row bs n e q = rw (first_byte bs n, ← e, p) q

  pub short : (opcode : ℕ) → listed x ≡ rows_of opcode → Each short_row (listed k)
  short opcode e = rw (← p, e) (short_rows opcode)
