-- Numbers as the ASCII codes of their digits. Document 01: "passes, N and offset in decimal, the rest in capital hex, places of four
-- digits or more". Assumes nothing: these are definitions.
use Rattle.std.specs.Prelude.{ℕ, zero, suc, ◌-◌, ◌/◌, ◌%◌, ◌&&◌, List, [], ◌∷◌, ◌++◌, ltb, leb}
use Rattle.refusals.specs.Answer.{pick}
use Rattle.hexadecimal.specs.Hex.{digit_of}

-- a number to a base, of at most and at least so many digits, the highest first: the digits of its quotient by the base, then its
-- remainder
abbrev pub numeral : (base most least : ℕ) → ℕ → List ℕ
numeral base zero least n = []
numeral base (suc most) least n =
    pick (ltb n base && leb least 1) (digit_of n ∷ []) (numeral base most (least - 1) (n / base) ++ (digit_of (n % base) ∷ []))

-- "places of four digits or more": none has more than five
abbrev pub place_text : ℕ → List ℕ
place_text n = numeral 16 5 4 n

abbrev pub decimal : (most : ℕ) → ℕ → List ℕ
decimal most n = numeral 10 most 1 n
