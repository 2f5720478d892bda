-- A line has at most twenty bytes, and no statement has more than one. Assumes nothing.
use Rattle.std.specs.Prelude.{Option}
use mathlib.Core.List.{List, [], ◌∷◌}
use mathlib.Core.Path.{◌≡◌, refl}
use Prim.Native.Nat.{ℕ, suc, ◌*◌, ◌≤◌}
use native.Mathlib.Omega.{arith}
use lib.IntN.{ℤ}
use lib.ListN.{length, length-append}
use Rattle.refusals.specs.AnswerAt.{AnswerAt, Fine, Fault, part}
use Rattle.mnemonics.specs.Ascii.{ascii}
use Rattle.mnemonics.proofs.Letters.{three_letters}
use Rattle.lines.proofs.Lengths.{line_length}
use Rattle.form.specs.Statements.{What, Instruction, Open, Close, Label, Constant, SetPlace, Byte, Word, Screen, Statement}
use Rattle.evaluator.specs.Expression.{Value}
use Rattle.walk.specs.declared.Walk.{Walk}
use Rattle.walk.specs.Walk.{here}
use Rattle.walk.specs.Values.{value_at, step_at}
use Rattle.compares.specs.Compared.{plain}
use Rattle.tries.specs.Tries.{try_at}
use Rattle.tries.proofs.Lengths.{try_short}
use Rattle.record_lines.specs.Records.{mnemonic_of, line_of, bytes_at, lines}

-- ---- a line

three : (x : What) → length (ascii (mnemonic_of x)) ≡ 3
three (Instruction mnemonic mode suffix) = three_letters mnemonic
three Byte = refl
three Word = refl
three (Screen petscii) = refl
three (Open id) = refl
three Close = refl
three (Label id) = refl
three (Constant id) = refl
three SetPlace = refl

line_short : (place : ℕ) (x : What) (bs : List ℕ) → length bs ≤ 3 → length (line_of place x bs) ≤ 20
line_short place x [] h = omega arith
line_short place x (b ∷ bs) h = omega (arith, line_length place (b ∷ bs) (mnemonic_of x), three x)

-- ---- a line for each statement

module _ (reads : (ℕ → Option ℤ) → ℤ → ℕ → Value) (numbers : ℕ → Option ℤ) where
  few_bytes : (w : Walk) (x : Statement) → length (bytes_at reads numbers w x) ≤ 3
  unfolding try_at
  few_bytes w x =
      go (try_at reads plain numbers w x)
      (try_short plain (numbers (suc w.names)) (here w) x.at x.says (value_at reads numbers w x))
    where
      go : (a : AnswerAt (List ℕ)) → ((bs : List ℕ) → a ≡ Fine bs → length bs ≤ 3) → length (part a) ≤ 3
      go (Fine bs) h = h bs refl
      go (Fault n i) h = omega arith

  pub lines_short : (w : Walk) (xs : List Statement) → length (lines reads numbers w xs) ≤ 20 * length xs
  lines_short w [] = omega arith
  lines_short w (x ∷ xs) =
      let one = line_of w.place x.says (bytes_at reads numbers w x) in
      let rest = lines reads numbers (step_at reads numbers w x) xs in
      omega (
        arith,
        length-append one rest,
        line_short w.place x.says (bytes_at reads numbers w x) (few_bytes w x),
        lines_short (step_at reads numbers w x) xs,
      )
