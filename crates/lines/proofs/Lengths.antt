-- How long lines are at most. Assumes nothing.
use Prim.Native.String.{String}
use mathlib.Core.List.{List}
use Prim.Native.Nat.{ℕ, ◌+◌, ◌*◌, ◌≤◌}
use native.Mathlib.Omega.{arith}
use lib.ListN.{length, length-append}
use Rattle.mnemonics.specs.Ascii.{ascii}
use Rattle.numerals.proofs.Digits.{at_most}
use Rattle.lines.specs.Text.{line, last_line, refused_line}
use Rattle.lines.proofs.Bytes.{length_spaced}

-- a place, three characters for each byte, a space, the mnemonic and the line's end
pub line_length : (place : ℕ) (bytes : List ℕ) (mnemonic : String)
    → length (line place bytes mnemonic) ≤ 7 + 3 * length bytes + length (ascii mnemonic)
unfolding line
line_length place bytes mnemonic =
    let few = at_most 16 5 4 place in
    let long = length_spaced bytes in
    simp length-append (omega arith)

pub last_length : (start end passes : ℕ) → length (last_line start end passes) ≤ 16
unfolding last_line
last_length start end passes =
    let few = at_most 16 5 4 start in
    let more = at_most 16 5 4 end in
    let most = at_most 10 3 1 passes in
    simp length-append (omega arith)

pub refused_length : (number at : ℕ) → length (refused_line number at) ≤ 21
unfolding refused_line
refused_length number at =
    let few = at_most 10 3 1 number in
    let more = at_most 10 5 1 at in
    simp length-append (omega arith)
