-- A walk over the statements of a tape: what it carries from one to the next, how long a statement is, and what the walk becomes.
-- Assumes nothing: these are definitions.
use Rattle.std.specs.Prelude.{ℕ, ◌+◌, Bool, false, ◌&&◌, List, [], ◌∷◌, ℤ, pos, nat_abs, Option, None, Some}
use Rattle.std.specs.Int.Signed.{le_z}
use Rattle.refusals.specs.Answer.{pick}
use Rattle.opcodes.specs.declared.Form.{Form}
use Rattle.opcodes.specs.Manual.{forms_of}
use Rattle.opcodes.specs.Encode.{length_of, takes}
use Rattle.form.specs.Statements.{What, Instruction, Open, Close, Label, Constant, SetPlace, Byte, Word, Screen}
use Rattle.walk.specs.declared.Walk.{Walk}

-- ---- where a walk is

-- where it begins
pub record Origin : Type 0 where
  pub initial : ℕ

abbrev pub origin : ℕ → Origin
origin initial = record { initial = initial }

-- the place of the next byte, and how many names are declared so far. "In a pass the place is a plain number that may run past
-- 65,536"
abbrev pub walk : ℕ → ℕ → Walk
walk place names = record { place = place; names = names }

-- "from the initial place"
abbrev pub begin : Origin → Walk
begin o = walk o.initial 0

-- the number of a label there, and the current place
abbrev pub here : Walk → ℤ
here w = pos w.place

-- ---- how long a statement is

-- a form that an operand takes, before the row's last: an unresolved operand takes none
abbrev pub takes_early : Form → Option ℤ → Bool
takes_early f None = false
takes_early f (Some z) = takes f z

-- "An instruction is as long as its form; an unresolved operand takes the two-byte form where the row has one; a row of one form
-- always has its length"
abbrev pub form_length : List Form → Option ℤ → ℕ
form_length [] v = 0
form_length (f ∷ []) v = length_of f
form_length (f ∷ g ∷ fs) v = pick (takes_early f v) (length_of f) (form_length (g ∷ fs) v)

-- how many bytes a statement writes, where its expression is v
abbrev pub length_in : What → Option ℤ → ℕ
length_in (Instruction mnemonic mode suffix) v = form_length (forms_of mnemonic mode suffix) v
length_in Byte v = 1
length_in Word v = 2
length_in (Screen petscii) v = 1
length_in (Open id) v = 0
length_in Close v = 0
length_in (Label id) v = 0
length_in (Constant id) v = 0
length_in SetPlace v = 0

-- ---- behind a statement

-- a number in 0..65,536
abbrev pub is_place : ℤ → Bool
is_place z = le_z (pos 0) z && le_z z (pos 65536)

-- "Set place does nothing if unresolved or outside 0..65,536"
abbrev pub moved_to : Option ℤ → ℕ → ℕ
moved_to None place = place
moved_to (Some z) place = pick (is_place z) (nat_abs z) place

abbrev pub place_after : What → Option ℤ → ℕ → ℕ
place_after SetPlace v place = moved_to v place
place_after (Instruction mnemonic mode suffix) v place = place + length_in (Instruction mnemonic mode suffix) v
place_after Byte v place = place + length_in Byte v
place_after Word v place = place + length_in Word v
place_after (Screen petscii) v place = place + length_in (Screen petscii) v
place_after (Open id) v place = place
place_after Close v place = place
place_after (Label id) v place = place
place_after (Constant id) v place = place

-- how many names a statement declares
abbrev pub names_in : What → ℕ
names_in (Open id) = 1
names_in (Label id) = 1
names_in (Constant id) = 1
names_in Close = 0
names_in (Instruction mnemonic mode suffix) = 0
names_in SetPlace = 0
names_in Byte = 0
names_in Word = 0
names_in (Screen petscii) = 0

-- the walk behind a statement, where its expression is v
unfoldable pub step : Walk → What → Option ℤ → Walk
step w x v = walk (place_after x v w.place) (w.names + names_in x)
