-- Document 01's table of records: the kinds under their names, and how many bytes the body of each has.
-- Assumes nothing: these are definitions.
use Rattle.std.specs.Prelude.{ℕ, suc, Bool, ◌&&◌, not, List, [], ◌∷◌, eqb, leb, ltb}
use Rattle.refusals.specs.Answer.{pick}

-- ---- what an expression is made of

abbrev pub number : ℕ
number = 0x01

abbrev pub current_place : ℕ
current_place = 0x02

-- "name of 1..4 ids"
abbrev pub name1 : ℕ
name1 = 0x11

abbrev pub name2 : ℕ
name2 = 0x12

abbrev pub name3 : ℕ
name3 = 0x13

abbrev pub name4 : ℕ
name4 = 0x14

abbrev pub flags : ℕ
flags = 0x20

abbrev pub binary : ℕ
binary = 0x30

-- ---- statements

abbrev pub instruction : ℕ
instruction = 0x40

abbrev pub open_scope : ℕ
open_scope = 0x42

abbrev pub close_scope : ℕ
close_scope = 0x43

abbrev pub label : ℕ
label = 0x44

abbrev pub constant : ℕ
constant = 0x45

abbrev pub set_place : ℕ
set_place = 0x46

abbrev pub byte : ℕ
byte = 0x47

abbrev pub word : ℕ
word = 0x48

abbrev pub screen_byte : ℕ
screen_byte = 0x49

abbrev pub end : ℕ
end = 0x4f

-- ---- the table

pub record Row : Type 0 where
  pub kind : ℕ
  pub body : ℕ

abbrev row : ℕ → ℕ → Row
row k n = record { kind = k; body = n }

-- "one byte of kind, then a body whose length the kind fixes"
abbrev pub table : List Row
table =
    row number 8 ∷
    row current_place 0 ∷
    row name1 3 ∷
    row name2 5 ∷
    row name3 7 ∷
    row name4 9 ∷
    row flags 1 ∷
    row binary 1 ∷
    row instruction 3 ∷
    row open_scope 2 ∷
    row close_scope 0 ∷
    row label 2 ∷
    row constant 2 ∷
    row set_place 0 ∷
    row byte 0 ∷
    row word 0 ∷
    row screen_byte 1 ∷
    row end 0 ∷
    []

abbrev pub lookup : List Row → ℕ → ℕ
lookup [] k = 0
lookup (r ∷ rs) k = pick (eqb k r.kind) (suc r.body) (lookup rs k)

-- the length of a record of kind k, its kind too; 0 where no record has that kind
unfoldable pub size_of : ℕ → ℕ
size_of k = lookup table k

abbrev pub is_kind : ℕ → Bool
is_kind k = not (eqb (size_of k) 0)

-- a kind of which expressions are made, and a kind that stands outside of them
unfoldable pub is_expression : ℕ → Bool
is_expression k = is_kind k && ltb k instruction

unfoldable pub is_statement : ℕ → Bool
is_statement k = is_kind k && leb instruction k

-- "name of 1..4 ids"
unfoldable pub is_name : ℕ → Bool
is_name k = leb name1 k && leb k name4
