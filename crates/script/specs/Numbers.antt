-- The number of a word: its digits in decimal. What is no digit is left out, and a number that is too great is the greatest.
-- Assumes nothing: these are definitions.
use Rattle.std.specs.Prelude.{ℕ, ◌+◌, ◌-◌, ◌*◌, ◌&&◌, List, [], ◌∷◌, leb}
use Rattle.refusals.specs.Answer.{pick}
use Rattle.script.specs.Words.{word_of}

-- 2^64 - 1
abbrev pub greatest : ℕ
greatest = 18446744073709551615

-- a number with a digit behind it
abbrev pub with_digit : ℕ → ℕ → ℕ
with_digit n digit = pick (leb (10 * n + digit) greatest) (10 * n + digit) greatest

-- a number with a letter behind it, by its ASCII code
abbrev pub with_letter : ℕ → ℕ → ℕ
with_letter n c = pick (leb 0x30 c && leb c 0x39) (with_digit n (c - 0x30)) n

-- a number with a word behind it
abbrev pub number_in : ℕ → List ℕ → ℕ
number_in n [] = n
number_in n (c ∷ cs) = number_in (with_letter n c) cs

abbrev pub number_of : ℕ → List ℕ → ℕ
number_of index line = number_in 0 (word_of index line)
