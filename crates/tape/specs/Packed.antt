-- How the code packs the sizes of records. Assumes nothing: these are definitions.
use Rattle.std.specs.Prelude.{ℕ, zero, suc, ◌+◌, ◌*◌, List, [], ◌∷◌, get_or}
use Rattle.tape.specs.Kinds.{table, lookup}

-- the sizes of n kinds from k on as one number, a digit of 16 for each, the first lowest
abbrev packed : ℕ → ℕ → ℕ
packed k zero = 0
packed k (suc n) = lookup table k + 16 * packed (suc k) n

-- the rows in which kinds stand, each of sixteen
abbrev pub rows : List ℕ
rows = packed 0x00 16 ∷ packed 0x10 16 ∷ packed 0x20 16 ∷ packed 0x30 16 ∷ packed 0x40 16 ∷ []

unfoldable pub sizes_of : ℕ → ℕ
sizes_of row = get_or rows row 0
