-- The lines of a listing, as the ASCII codes of their characters. Assumes nothing: these are definitions.
use Rattle.std.specs.Prelude.{ℕ, List, [], ◌∷◌, ◌++◌}
use Prim.Native.String.{String}
use Rattle.hexadecimal.specs.Hex.{digits_of}
use Rattle.mnemonics.specs.Ascii.{ascii}
use Rattle.numerals.specs.Numerals.{place_text, decimal}

-- bytes, each behind a space
abbrev pub spaced : List ℕ → List ℕ
spaced [] = []
spaced (b ∷ bs) = ascii " " ++ digits_of b ++ spaced bs

-- "each writing record's place, bytes, mnemonic as three capital letters"
unfoldable pub line : ℕ → List ℕ → String → List ℕ
line place bytes mnemonic = place_text place ++ spaced bytes ++ ascii " " ++ ascii mnemonic ++ ascii "\n"

-- "then start, end and passes"
unfoldable pub last_line : (start end passes : ℕ) → List ℕ
last_line start end passes = place_text start ++ ascii " " ++ place_text end ++ ascii " " ++ decimal 3 passes ++ ascii "\n"

-- "or `refused N at OFFSET`"
unfoldable pub refused_line : (number at : ℕ) → List ℕ
refused_line number at = ascii "refused " ++ decimal 3 number ++ ascii " at " ++ decimal 5 at ++ ascii "\n"
