-- A statement, tried: the bytes that it writes, or its refusal. Document 01: "Then each record is tried in tape order: 10, 11, 13,
-- 15 for set place, 12 or 14, 15 for room." Assumes nothing: these are definitions.
use Rattle.std.specs.Prelude.{ℕ, List, [], ◌∷◌, eqb, ℤ, pos, Option, None, Some}
use Rattle.refusals.specs.Answer.{Answer, pick, and_then}
use Rattle.refusals.specs.AnswerAt.{AnswerAt, Fine, Fault}
use Rattle.refusals.specs.Says.{number_of}
use Rattle.refusals.specs.Table.{unresolved, outside}
use Rattle.refusals.specs.declared.Refusal.{Refusal}
use Rattle.int64.specs.Num.{mod_z}
use Rattle.opcodes.specs.Manual.{is_branch}
use Rattle.opcodes.specs.Encode.{low_first, encode_of}
use Rattle.branch.specs.Branch.{distance_of}
use Rattle.text_encoding.specs.Petscreen.{petscreen_of}
use Rattle.form.specs.Statements.{What, Instruction, Open, Close, Label, Constant, SetPlace, Byte, Word, Screen, placed}
use Rattle.evaluator.specs.Expression.{Value, Number, Unresolved, Refuses}
use Rattle.walk.specs.Walk.{is_place}
use Rattle.walk.specs.Values.{eq_value}
use Rattle.compares.specs.declared.Compares.{Compares}

-- ---- what an expression gives

-- its number; "10, 11", at the statement
abbrev pub given : {A : Type 0} → ℕ → Value → (ℤ → AnswerAt A) → AnswerAt A
given at (Number z) f = f z
given at (Unresolved i) f = Fault unresolved at
given at (Refuses n i) f = Fault n at

-- ---- what is compared

-- a number with the one in the list, by the refusal that a difference gives; without one it is not compared
abbrev pub compared : Option Refusal → Option ℤ → ℤ → ℕ → AnswerAt (List ℕ)
compared None own z at = Fine []
compared (Some why) own z at = pick (eq_value own (Some z)) (Fine []) (Fault (number_of why) at)

-- ---- the bytes

-- an instruction at a place: its row's bytes with the operand, 12; "A branch's operand byte is target - (place + 2), exact": 14
unfoldable pub instruction_of : (mnemonic mode suffix : ℕ) → ℤ → ℤ → Answer (List ℕ)
instruction_of mnemonic mode suffix place z =
    pick (is_branch mnemonic mode suffix)
    (and_then (distance_of place z) (λ b. encode_of mnemonic mode suffix (pos b)))
    (encode_of mnemonic mode suffix z)

-- a statement with the offset `at`, which the walk reaches at a place: its expression comes to v, and the name that it declares has
-- the number `own` in the list
abbrev pub try_of : Compares → (own : Option ℤ) (place : ℤ) (at : ℕ) → What → Value → AnswerAt (List ℕ)
try_of c own place at (Open id) v = Fine []
try_of c own place at Close v = Fine []
try_of c own place at (Label id) v = compared c.label own place at
try_of c own place at (Constant id) v = given at v (λ z. compared c.constant own z at)
try_of c own place at SetPlace v = given at v (λ z. pick (is_place z) (Fine []) (Fault outside at))
try_of c own place at (Instruction mnemonic mode suffix) v =
    pick (eqb mode 0) (placed at (encode_of mnemonic mode suffix (pos 0)))
    (given at v (λ z. placed at (instruction_of mnemonic mode suffix place z)))
try_of c own place at Byte v = given at v (λ z. Fine (low_first 1 (mod_z 256 z)))
try_of c own place at Word v = given at v (λ z. Fine (low_first 2 (mod_z 65536 z)))
try_of c own place at (Screen petscii) v = Fine (petscreen_of petscii ∷ [])
