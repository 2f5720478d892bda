-- Document 01: "the rest in capital hex". Assumes nothing: these are definitions.
use Rattle.std.specs.Prelude.{ℕ, ◌+◌, ◌-◌, ◌/◌, ◌%◌, List, [], ◌∷◌, ltb}
use Rattle.refusals.specs.Answer.{pick}

-- the ASCII code of a digit below 16: 30 hex on for 0 to 9, 41 hex on for A to F
abbrev pub digit_of : ℕ → ℕ
digit_of n = pick (ltb n 10) (0x30 + n) (0x41 + (n - 10))

-- the two digits of a byte, the high one first
abbrev pub digits_of : ℕ → List ℕ
digits_of b = digit_of (b / 16) ∷ digit_of (b % 16) ∷ []
