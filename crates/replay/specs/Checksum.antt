-- The checksum that stands for long answers. Assumes nothing: this is a definition.
use Rattle.std.specs.Prelude.{ℕ, ◌+◌, ◌*◌, ◌%◌, List, [], ◌∷◌}

-- each byte, and 1, is added to the sum modulo a prime, times 257
abbrev pub checksum_of : ℕ → List ℕ → ℕ
checksum_of sum [] = sum
checksum_of sum (byte ∷ bytes) = checksum_of (257 * (sum % 4294967291) + byte + 1) bytes
