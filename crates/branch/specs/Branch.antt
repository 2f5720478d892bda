-- Relative addressing, as the manual has it: a branch is two bytes long; its second byte is a signed offset, from -128 to
-- +127, which is added to the program counter once that points at the next instruction.
-- Assumes nothing: these are definitions.
use Rattle.std.specs.Prelude.{ℕ, ◌-◌, Bool, ◌&&◌, ltb, ℤ, pos, negsuc, ◌+ℤ◌, ◌-ℤ◌}
use Rattle.std.specs.Int.Signed.{le_z}
use Rattle.refusals.specs.Answer.{Answer, Done, Refused, pick}
use Rattle.refusals.specs.Table.{too_far}
use Rattle.int64.specs.Num.{mod_z}

-- from the next instruction to the target; document 01: "target - (place + 2), exact"
abbrev pub offset : ℤ → ℤ → ℤ
offset place target = target -ℤ (place +ℤ pos 2)

-- "must lie in -128..127" (`negsuc n` is -(n + 1))
abbrev pub in_reach : ℤ → Bool
in_reach z = le_z (negsuc 127) z && le_z z (pos 127)

-- the byte that stands for an offset: the offset modulo 256; out of reach: 14
abbrev pub byte_of : ℤ → Answer ℕ
byte_of z = pick (in_reach z) (Done (mod_z 256 z)) (Refused too_far)

-- the operand byte of a branch at a place to a target
unfoldable pub distance_of : ℤ → ℤ → Answer ℕ
distance_of place target = byte_of (offset place target)

-- the offset that an operand byte stands for: 0 to 127, and from 128 on b - 256
abbrev pub signed : ℕ → ℤ
signed b = pick (ltb b 128) (pos b) (negsuc (255 - b))

-- where a branch at a place with this operand byte goes
abbrev pub reached : ℤ → ℕ → ℤ
reached place b = (place +ℤ pos 2) +ℤ signed b
