-- Bytes that are laid one behind the other into lent memory, and tapes as document 01 writes them. Assumes nothing: these are
-- definitions.
use Rattle.std.specs.Prelude.{ℕ, zero, suc, ◌+◌, ◌-◌, ◌*◌, Bool, true, false, ◌&&◌, List, [], ◌∷◌, ◌++◌, eqb, leb, length, take, Option, None, Some}
use Rattle.refusals.specs.Answer.{pick}
use Rattle.refusals.specs.Memory.{over}

-- ---- what is laid

-- as many of the bytes as there is room for from an offset on
abbrev pub fitting : List ℕ → ℕ → List ℕ → List ℕ
fitting memory at bytes = take (length memory - at) bytes

-- the offset behind them, and the memory with them
unfoldable pub laid : List ℕ → ℕ → List ℕ → ℕ × List ℕ
laid memory at bytes = (at + length (fitting memory at bytes), over memory at (fitting memory at bytes))

-- bytes, so often
abbrev pub repeated : ℕ → List ℕ → List ℕ
repeated zero bytes = []
repeated (suc n) bytes = bytes ++ repeated n bytes

-- ---- what is compared

-- two runs of bytes, byte by byte
abbrev pub same : List ℕ → List ℕ → Bool
same [] [] = true
same [] (d ∷ ds) = false
same (c ∷ cs) [] = false
same (c ∷ cs) (d ∷ ds) = eqb c d && same cs ds

-- ---- tapes as text

-- a digit, 0 to 9 or a to f, by its ASCII code; none for anything else
abbrev pub digit_in : ℕ → Option ℕ
digit_in c =
    pick (leb 0x30 c && leb c 0x39) (Some (c - 0x30))
    (pick (leb 0x61 c && leb c 0x66) (Some (c - 0x61 + 10)) None)

-- the byte of two digits, if both are
abbrev pub pair : Option ℕ → Option ℕ → List ℕ
pair None low = []
pair (Some high) None = []
pair (Some high) (Some low) = (16 * high + low) ∷ []

-- the digit that the next one may follow: none where this one was a second
abbrev pub following : Option ℕ → Option ℕ → Option ℕ
following None this = this
following (Some high) this = None

-- the bytes of a text, behind the first digit of a pair or behind none: what is no digit stands between two bytes
abbrev pub bytes_behind : Option ℕ → List ℕ → List ℕ
bytes_behind high [] = []
bytes_behind high (c ∷ cs) = pair high (digit_in c) ++ bytes_behind (following high (digit_in c)) cs

unfoldable pub bytes_in : List ℕ → List ℕ
bytes_in text = bytes_behind None text
