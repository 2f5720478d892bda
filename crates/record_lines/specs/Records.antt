-- A line for each record that writes, in tape order, and a last one; or the refused line. Assumes nothing: these are definitions.
use Rattle.std.specs.Prelude.{ℕ, List, [], ◌∷◌, ◌++◌, ℤ, Option}
use Prim.Native.String.{String}
use Rattle.refusals.specs.AnswerAt.{AnswerAt, Fine, Fault, part, mapped}
use Rattle.mnemonics.specs.Mnemonics.{dashes, name_of}
use Rattle.lines.specs.Text.{line, last_line, refused_line}
use Rattle.pen.specs.Pens.{size}
use Rattle.form.specs.Statements.{What, Instruction, Open, Close, Label, Constant, SetPlace, Byte, Word, Screen, Statement, statements}
use Rattle.evaluator.specs.Expression.{Value}
use Rattle.walk.specs.declared.Walk.{Walk}
use Rattle.walk.specs.Walk.{origin, begin}
use Rattle.walk.specs.Values.{step_at}
use Rattle.walk.specs.Numbers.{numbers_in, reads_noted}
use Rattle.compares.specs.Compared.{plain, builder}
use Rattle.tries.specs.Tries.{try_at}
use Rattle.tries.specs.Write.{write_of}

-- ---- a line for each record that writes

-- what a statement is called: "mnemonic as three capital letters (--- for data)"
abbrev pub mnemonic_of : What → String
mnemonic_of (Instruction mnemonic mode suffix) = name_of mnemonic
mnemonic_of Byte = dashes
mnemonic_of Word = dashes
mnemonic_of (Screen petscii) = dashes
mnemonic_of (Open id) = dashes
mnemonic_of Close = dashes
mnemonic_of (Label id) = dashes
mnemonic_of (Constant id) = dashes
mnemonic_of SetPlace = dashes

-- a statement that writes these bytes at a place: none, no line
abbrev pub line_of : ℕ → What → List ℕ → List ℕ
line_of place x [] = []
line_of place x (b ∷ bs) = line place (b ∷ bs) (mnemonic_of x)

-- reads: what the expression at an offset comes to, where the nodes have these numbers, at a place
module _ (reads : (ℕ → Option ℤ) → ℤ → ℕ → Value) (numbers : ℕ → Option ℤ) where
  -- the bytes that a statement writes itself, where the walk is; also where a later one writes over them
  abbrev pub bytes_at : Walk → Statement → List ℕ
  bytes_at w x = part (try_at reads plain numbers w x)

  abbrev pub lines : Walk → List Statement → List ℕ
  lines w [] = []
  lines w (x ∷ xs) = line_of w.place x.says (bytes_at w x) ++ lines (step_at reads numbers w x) xs

-- ---- behind the tries

-- a listing, or the refused line alone
abbrev pub said : AnswerAt (List ℕ) → List ℕ
said (Fine text) = text
said (Fault number at) = refused_line number at

-- a tape whose names have been resolved, and whose numbers n passes have settled: its lines, "then start, end and passes"
unfoldable pub recorded : (tape nodes : List ℕ) (numbers : List (Option ℤ)) (n initial : ℕ) → AnswerAt (List ℕ)
recorded tape nodes numbers n initial =
    mapped
    (λ t. lines (reads_noted tape nodes) (numbers_in numbers) (begin (origin initial)) (statements tape)
    ++ last_line t.page.pen.start t.page.pen.end n)
    (write_of tape nodes numbers initial builder size)
