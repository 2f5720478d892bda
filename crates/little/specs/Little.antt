-- Document 01: "Numbers are little-endian." Assumes nothing: these are definitions.
use Rattle.std.specs.Prelude.{List, [], ◌∷◌, ℕ, ◌+◌, ◌*◌, take, drop}

-- the number that bytes make, the lowest first; a byte that is missing counts as 0
abbrev pub number : List ℕ → ℕ
number [] = 0
number (b ∷ bs) = b + 256 * number bs

-- the number of the n bytes of l from i on, as far as they are there
unfoldable pub number_at : ℕ → List ℕ → ℕ → ℕ
number_at n l i = number (take n (drop i l))
