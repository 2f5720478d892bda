-- Document 01's "Program counter". Assumes nothing: these are definitions.
use Rattle.std.specs.Prelude.{ℕ, ◌+◌, ◌-◌, ◌/◌, ◌%◌, List, [], ◌∷◌, leb, ℤ, pos}
use Rattle.refusals.specs.Answer.{Answer, Done, Refused, pick, mapped, and_then}
use Rattle.refusals.specs.Table.{argument}

-- "Places are 0 to 65,536; a place, sum or difference outside that: refusal 1"
abbrev pub place : ℕ → Answer ℕ
place p = pick (leb p 65536) (Done p) (Refused argument)

-- the place n bytes on
abbrev pub sum : ℕ → ℕ → Answer ℕ
sum p n = and_then (place p) (λ at. place (at + n))

-- the place n bytes back; below zero there is none
abbrev pub difference : ℕ → ℕ → Answer ℕ
difference p n = and_then (place p) (λ at. pick (leb n at) (Done (at - n)) (Refused argument))

-- the place's low 16 bits, so 0 of 65,536
abbrev pub low16 : ℕ → Answer ℕ
low16 p = mapped (λ at. at % 65536) (place p)

-- the same as two bytes, low first
abbrev pub le_bytes : ℕ → Answer (List ℕ)
le_bytes p = mapped (λ at. at % 256 ∷ at / 256 % 256 ∷ []) (place p)

-- the place as a signed number
abbrev pub as_i64 : ℕ → Answer ℤ
as_i64 p = mapped pos (place p)

-- where the empty range at the place begins and ends
abbrev pub empty_range : ℕ → Answer (ℕ × ℕ)
empty_range p = mapped (λ at. (at, at)) (place p)
