-- Document 01's "Marked cases": one list of questions and answers, and one statement over it. Each question is put to
-- the very definition that a promise cites. Assumes nothing: these are definitions.
use Rattle.std.specs.Prelude.{ℕ, ◌^◌, ◌≡◌, List, [], ◌∷◌, ◌++◌, ℤ, pos, neg_ℤ, replicate}
use Rattle.refusals.specs.Answer.{Answer, Done, Refused, mapped}
use Rattle.refusals.specs.AnswerAt.{AnswerAt, Fine, Fault}
use Rattle.refusals.specs.Each.{Each}
use Rattle.refusals.specs.Table.{arithmetic, too_small, outside}
use Rattle.int64.specs.Num.{mod_z}
use Rattle.opcodes.specs.Encode.{low_first, encode_of}
use Rattle.pen.specs.Pens.{size, begun}
use Rattle.segment.specs.Segment.{emit}
use Rattle.text_encoding.specs.Petscreen.{petscreen_of}
use Rattle.edges.specs.Edges.{root}
use Rattle.symbols.specs.Symbols.{new}
use Rattle.tape.specs.Kinds as kind
use Rattle.evaluator.specs.Evaluate.{evaluate_of}

-- ---- questions and answers

pub data Question : Type 0 where
  encode : (mnemonic mode suffix : ℕ) → ℤ → Question
  evaluate : List ℕ → Question
  petscreen : ℕ → Question
  emit_at : ℕ → List ℕ → Question

pub data Value : Type 0 where
  bytes : List ℕ → Value
  number : ℤ → Value
  range : (start end : ℕ) → Value

-- a refusal without its place, which the marked cases do not name
abbrev pub unplaced : {A : Type 0} → AnswerAt A → Answer A
unplaced (Fine a) = Done a
unplaced (Fault n at) = Refused n

-- what the definitions answer; an expression is evaluated alone, in the table that has only the root
abbrev pub answer : Question → Answer Value
answer (encode mnemonic mode suffix z) = mapped bytes (encode_of mnemonic mode suffix z)
answer (evaluate bs) = mapped number (unplaced (evaluate_of bs new root (pos 0)))
answer (petscreen c) = Done (bytes (petscreen_of c ∷ []))
answer (emit_at place bs) = mapped (λ pen. range pen.start pen.end) (emit (begun place place) (replicate size 0) bs)

infix 70 ◌gives◌
pub data Case : Type 0 where
  ◌gives◌ : Question → Answer Value → Case

-- ---- the list

-- mnemonics, in the order of the alphabet
abbrev ADC : ℕ
ADC = 0

abbrev JMP : ℕ
JMP = 27

abbrev LDA : ℕ
LDA = 29

abbrev STX : ℕ
STX = 48

-- modes and suffixes
abbrev Immediate : ℕ
Immediate = 1

abbrev AbsoluteOrZp : ℕ
AbsoluteOrZp = 2

abbrev none : ℕ
none = 0

abbrev Y : ℕ
Y = 2

-- operators
abbrev Div : ℕ
Div = 3

abbrev Mod : ℕ
Mod = 4

abbrev Shl : ℕ
Shl = 5

abbrev Shr : ℕ
Shr = 6

-- flags
abbrev NotNeg : ℕ
NotNeg = 3

-- records: a number, an operator with left and right, flags with an expression
abbrev num : ℤ → List ℕ
num z = kind.number ∷ low_first 8 (mod_z (2 ^ 64) z)

abbrev operate : ℕ → ℤ → ℤ → List ℕ
operate op a b = kind.binary ∷ op ∷ num a ++ num b

abbrev flag : ℕ → ℤ → List ℕ
flag f z = kind.flags ∷ f ∷ num z

abbrev minus : ℕ → ℤ
minus n = neg_ℤ (pos n)

abbrev are : List ℕ → Answer Value
are bs = Done (bytes bs)

abbrev is : ℤ → Answer Value
is z = Done (number z)

abbrev pub marked : List Case
marked =
    -- 1. LDA AbsoluteOrZp 255: A5 FF; 256: AD 00 01
    encode LDA AbsoluteOrZp none (pos 255) gives are (0xa5 ∷ 0xff ∷ []) ∷
    encode LDA AbsoluteOrZp none (pos 256) gives are (0xad ∷ 0x00 ∷ 0x01 ∷ []) ∷
    -- 2. -1: A5 FF; 65,541: AD 05 00
    encode LDA AbsoluteOrZp none (minus 1) gives are (0xa5 ∷ 0xff ∷ []) ∷
    encode LDA AbsoluteOrZp none (pos 65541) gives are (0xad ∷ 0x05 ∷ 0x00 ∷ []) ∷
    -- 3. ADC AbsoluteOrZp,Y 5: 79 05 00
    encode ADC AbsoluteOrZp Y (pos 5) gives are (0x79 ∷ 0x05 ∷ 0x00 ∷ []) ∷
    -- 4. LDA Immediate 255: A9 FF; 256: 12
    encode LDA Immediate none (pos 255) gives are (0xa9 ∷ 0xff ∷ []) ∷
    encode LDA Immediate none (pos 256) gives Refused too_small ∷
    -- 5. JMP 5: 4C 05 00
    encode JMP AbsoluteOrZp none (pos 5) gives are (0x4c ∷ 0x05 ∷ 0x00 ∷ []) ∷
    -- 6. STX AbsoluteOrZp,Y 256: 12
    encode STX AbsoluteOrZp Y (pos 256) gives Refused too_small ∷
    -- 7. 7/0 and 7%0: 0
    evaluate (operate Div (pos 7) (pos 0)) gives is (pos 0) ∷
    evaluate (operate Mod (pos 7) (pos 0)) gives is (pos 0) ∷
    -- 8. -7/2: -3; -7%2: -1
    evaluate (operate Div (minus 7) (pos 2)) gives is (minus 3) ∷
    evaluate (operate Mod (minus 7) (pos 2)) gives is (minus 1) ∷
    -- 9. 1<<63: smallest i64; 1<<64: 10; -5>>1: -3
    evaluate (operate Shl (pos 1) (pos 63)) gives is (minus (2 ^ 63)) ∷
    evaluate (operate Shl (pos 1) (pos 64)) gives Refused arithmetic ∷
    evaluate (operate Shr (minus 5) (pos 1)) gives is (minus 3) ∷
    -- 10. NOT with NEG on 0: -1
    evaluate (flag NotNeg (pos 0)) gives is (minus 1) ∷
    -- 11. Petscreen ff: 5e; c0: 40
    petscreen 0xff gives are (0x5e ∷ []) ∷
    petscreen 0xc0 gives are (0x40 ∷ []) ∷
    -- 12. One byte at 65,535 fits; two do not
    emit_at 65535 (0xea ∷ []) gives Done (range 65535 65536) ∷
    emit_at 65535 (0xea ∷ 0xea ∷ []) gives Refused outside ∷
    []

-- ---- the statement

abbrev pub Holds : Case → Type 0
Holds (q gives a) = answer q ≡ a

abbrev pub MarkedCases : Type 0
MarkedCases = Each Holds marked
