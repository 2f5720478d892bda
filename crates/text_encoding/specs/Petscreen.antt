-- Document 01's "Petscreen": its list of ranges of Petscii bytes, each with what it does to a byte.
-- Assumes nothing: these are definitions.
use Rattle.std.specs.Prelude.{ℕ, ◌+◌, ◌-◌, List, [], ◌∷◌, leb}
use Rattle.refusals.specs.Answer.{pick}

-- what a range does to each of its bytes
pub data Does : Type 0 where
  add less : ℕ → Does
  same : Does
  gives : ℕ → Does

abbrev pub done : Does → ℕ → ℕ
done (add n) c = c + n
done (less n) c = c - n
done same c = c
done (gives n) c = n

-- a range by its last byte; it begins where the one before it ends
pub data Range : Type 0 where
  up_to : ℕ → Does → Range

-- "00..1f add 128; 20..3f same; 40..5f less 64; 60..7f less 32; 80..9f add 64; a0..bf less 64; c0..fe less 128; ff gives 5e"
abbrev pub ranges : List Range
ranges =
    up_to 0x1f (add 128) ∷
    up_to 0x3f same ∷
    up_to 0x5f (less 64) ∷
    up_to 0x7f (less 32) ∷
    up_to 0x9f (add 64) ∷
    up_to 0xbf (less 64) ∷
    up_to 0xfe (less 128) ∷
    up_to 0xff (gives 0x5e) ∷
    []

-- the first range that holds the byte decides
abbrev pub by : List Range → ℕ → ℕ
by [] c = c
by (up_to last does ∷ rest) c = pick (leb c last) (done does c) (by rest c)

-- the screen byte of a Petscii byte
unfoldable pub petscreen_of : ℕ → ℕ
petscreen_of c = by ranges c
