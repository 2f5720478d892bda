-- The bytes of a tape are those that its lines give it, as far as there is room. Assumes nothing.
use mathlib.Core.Bool.{Bool, true, false}
use mathlib.Core.List.{List, ◌++◌}
use mathlib.Core.Path.{◌≡◌, refl, sym, ap, ◌∙◌, subst}
use Prim.Native.Nat.{ℕ, ◌+◌, ◌-◌, ◌≤◌}
use native.Mathlib.Omega.{arith}
use lib.ListN.{length, take, drop, length-append, length-take}
use lib.Seq.{take_at, length-take-le}
use Rattle.std.proofs.Math.Seq.{take-append-add}
use Rattle.refusals.specs.Answer.{pick}
use Rattle.refusals.specs.Memory.{over}
use Rattle.page.specs.Page.{fitting, laid}
use Rattle.script.specs.Commands.{is_command}
use Rattle.script.specs.Numbers.{number_of}
use Rattle.script_tapes.specs.Tapes.{tape_anew, more_bytes, more_labels, bytes_of, labels_behind, tape_after}
use Rattle.cases.specs.Tapes.{made}

-- the bytes of a tape of that length in memory
abbrev held : ℕ × List ℕ → List ℕ
held z = take z.0 z.1

module _ (room : List ℕ) where
  -- that there is room for a tape, and which bytes it has
  abbrev Holds : List ℕ → ℕ × List ℕ → Type 0
  Holds bytes z = (z.0 ≤ length room) × (held z ≡ bytes)

  module _ (len : ℕ) (h : len ≤ length room) where
    -- what is laid behind the bytes that there are
    behind : (bytes : List ℕ) → Holds (take (length room) (take len room ++ bytes)) (laid room len bytes)
    unfolding laid over
    behind bytes =
        let left : ℕ = length room - len in
        let fit : List ℕ = fitting room len bytes in
        let front : length (take len room) ≡ len = length-take-le len room h in
        let all : length (take len room) + left ≡ length room = omega (arith, front) in
        let end : length (take len room ++ fit) ≡ len + length fit = omega (arith, front, length-append (take len room) fit) in (
          omega (arith, length-take left bytes),
          take_at (take len room ++ fit) (drop (len + length fit) room) (len + length fit) end
              ∙ sym (take-append-add (take len room) bytes left)
              ∙ ap (λ (n : ℕ). take n (take len room ++ bytes)) all,
        )

module _ (room : List ℕ) (len : ℕ) (h : len ≤ length room) where
  -- a tape that is begun anew, one with more behind it, or the same, as a line says
  by_line : (anew more labels : Bool) (one two three : List ℕ)
      → Holds room
      (pick anew (take (length room) one)
      (pick more (take (length room) (take len room ++ two))
      (pick labels (take (length room) (take len room ++ three)) (take len room))))
      (pick anew (laid room 0 one) (pick more (laid room len two) (pick labels (laid room len three) (len, room))))
  by_line true more labels one two three = behind room 0 (omega arith) one
  by_line false true labels one two three = behind room len h two
  by_line false false true one two three = behind room len h three
  by_line false false false one two three = (h, refl)

  -- what a line makes of a tape
  pub made_is : (line : List ℕ) → Holds room (made (length room) (take len room) line) (tape_after room len line)
  unfolding tape_after made
  made_is line =
      by_line (is_command line tape_anew) (is_command line more_bytes) (is_command line more_labels) (bytes_of line) (bytes_of line)
      (labels_behind 0 (number_of 1 line))

-- the same of memory of n bytes, of what a call tells
module _ (n len : ℕ) (room line : List ℕ) (size : length room ≡ n) (h : len ≤ n) {end : ℕ} {memory : List ℕ}
    (told : (end, memory) ≡ tape_after room len line) where
  holds : Holds room (made (length room) (take len room) line) (end, memory)
  holds =
      subst (Holds room (made (length room) (take len room) line)) (sym told) (made_is room len (omega (arith, size)) line)

  pub end_in : end ≤ n
  end_in = omega (arith, size, holds.0)

  pub made_of : {bytes : List ℕ} → take len room ≡ bytes → take end memory ≡ made n bytes line
  made_of is = holds.1 ∙ (λ i. made (size i) (is i) line)
