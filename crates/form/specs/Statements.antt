-- The statements of a tape: the records outside of expressions, in tape order, up to the end record. Assumes nothing: these are
-- definitions.
use Rattle.std.specs.Prelude.{ℕ, zero, suc, ◌+◌, ◌-◌, Bool, true, false, not, ◌||◌, List, [], ◌∷◌, eqb, ltb, length, get_or}
use Rattle.refusals.specs.Answer.{Answer, Done, Refused, pick}
use Rattle.refusals.specs.AnswerAt.{AnswerAt, Fine, Fault, and_then}
use Rattle.little.specs.Little.{number_at}
use Rattle.tape.specs.Kinds.{instruction, open_scope, close_scope, label, constant, set_place, byte, word, end}
use Rattle.tape.specs.Record.{bytes_at}
use Rattle.tape.specs.Walk.{Out, Go, Stop, No, Walk, Ended, Bad}

-- ---- a statement

-- what a record of kind 40 to 49 says; its expression, if it has one, stands behind it
pub data What : Type 0 where
  Instruction : (mnemonic mode suffix : ℕ) → What
  Open : (id : ℕ) → What
  Close : What
  Label : (id : ℕ) → What
  Constant : (id : ℕ) → What
  SetPlace : What
  Byte : What
  Word : What
  Screen : (petscii : ℕ) → What

unfoldable pub what_of : List ℕ → What
what_of r =
    let k = get_or r 0 0 in
    pick (eqb k instruction) (Instruction (get_or r 1 0) (get_or r 2 0) (get_or r 3 0))
    (pick (eqb k open_scope) (Open (number_at 2 r 1))
    (pick (eqb k close_scope) Close
    (pick (eqb k label) (Label (number_at 2 r 1))
    (pick (eqb k constant) (Constant (number_at 2 r 1))
    (pick (eqb k set_place) SetPlace
    (pick (eqb k byte) Byte
    (pick (eqb k word) Word
    (Screen (get_or r 1 0)))))))))

-- whether an expression follows it: "expression unless Implied"
abbrev pub is_followed : What → Bool
is_followed (Instruction mnemonic mode suffix) = not (eqb mode 0)
is_followed (Open id) = false
is_followed Close = false
is_followed (Label id) = false
is_followed (Constant id) = true
is_followed SetPlace = true
is_followed Byte = true
is_followed Word = true
is_followed (Screen petscii) = false

-- its offset, what it says, and where its expression starts
pub record Statement : Type 0 where
  pub at : ℕ
  pub says : What
  pub expression : ℕ

abbrev pub statement_of : ℕ → List ℕ → Statement
statement_of at r = record { at = at; says = what_of r; expression = at + length r }

-- ---- those of a tape

-- a record behind which no statement stands: the end record, or none at all
abbrev pub is_last : List ℕ → Bool
is_last r = eqb (length r) 0 || eqb (get_or r 0 0) end

-- a record that belongs to an expression
abbrev pub is_inner : List ℕ → Bool
is_inner r = ltb (get_or r 0 0) instruction

-- from an offset on, in at most n records
unfoldable pub statements_from : ℕ → List ℕ → ℕ → List Statement
statements_from zero tape at = []
statements_from (suc n) tape at =
    let r = bytes_at tape at in
    let rest = statements_from n tape (at + length r) in
    pick (is_last r) [] (pick (is_inner r) rest (statement_of at r ∷ rest))

-- from an offset on: there are no more records than bytes
unfoldable pub statements_at : List ℕ → ℕ → List Statement
statements_at tape at = statements_from (length tape - at) tape at

abbrev pub statements : List ℕ → List Statement
statements tape = statements_at tape 0

-- ---- a walk over them

-- an answer at an offset
abbrev pub placed : {A : Type 0} → ℕ → Answer A → AnswerAt A
placed at (Done a) = Fine a
placed at (Refused n) = Fault n at

-- an answer as what a record does
abbrev pub out_of : {S : Type 0} → Answer S → Out S
out_of (Done s) = Go s
out_of (Refused n) = No n

-- f: what a statement does to a state
module _ (S : Type 0) (f : S → Statement → Answer S) where
  -- one statement after the other; a refusal has the statement's offset
  abbrev pub over_statements : S → List Statement → AnswerAt S
  over_statements s [] = Fine s
  over_statements s (x ∷ xs) = and_then (placed x.at (f s x)) (λ t. over_statements t xs)

  -- the same as the step of a reading: records of expressions are passed over, the end record is the end
  abbrev pub read_statement : S → ℕ → List ℕ → Out S
  read_statement s at r = pick (eqb (get_or r 0 0) end) (Stop s) (pick (is_inner r) (Go s) (out_of (f s (statement_of at r))))

-- where the reading of a whole tape of `len` bytes is then
abbrev pub walked_to : {S : Type 0} → ℕ → AnswerAt S → Walk S
walked_to len (Fine s) = Ended s len
walked_to len (Fault n at) = Bad n at
