-- Document 01's "Numbers a call may answer": the names of src/lib.rt, for definitions to cite.
-- Assumes nothing: these are definitions.
use Rattle.std.specs.Prelude.{ℕ, List, [], ◌∷◌}

-- "an argument, index or buffer length is outside its stated range; tested first"
abbrev pub argument : ℕ
argument = 1

-- "table or source map has no room for all the call needs"
abbrev pub no_room : ℕ
no_room = 2

-- "export or tape: name taken"
abbrev pub name_taken : ℕ
name_taken = 3

-- "export would close a loop"
abbrev pub loop : ℕ
loop = 4

-- "bad kind or body"
abbrev pub bad_record : ℕ
bad_record = 5

-- "no row"
abbrev pub no_row : ℕ
no_row = 6

-- "tape cut or overlong"; for decode, too few bytes
abbrev pub cut_short : ℕ
cut_short = 7

-- "scopes unpaired"
abbrev pub unpaired : ℕ
unpaired = 8

-- "too deep"
abbrev pub too_deep : ℕ
too_deep = 9

-- "arithmetic"
abbrev pub arithmetic : ℕ
arithmetic = 10

-- "unresolved"
abbrev pub unresolved : ℕ
unresolved = 11

-- "one-byte form too small"
abbrev pub too_small : ℕ
too_small = 12

-- "a label's place at the last walk is not its settled number"
abbrev pub moved : ℕ
moved = 13

-- "branch too far"
abbrev pub too_far : ℕ
too_far = 14

-- "place or room"
abbrev pub outside : ℕ
outside = 15

-- "not settled"
abbrev pub not_settled : ℕ
not_settled = 16

-- "number differs"
abbrev pub number_differs : ℕ
number_differs = 17

-- "bytes differ"
abbrev pub bytes_differ : ℕ
bytes_differ = 18

-- the names in the table's order
abbrev pub numbers : List ℕ
numbers =
    argument ∷ no_room ∷ name_taken ∷ loop ∷ bad_record ∷ no_row ∷ cut_short ∷ unpaired ∷ too_deep ∷ arithmetic ∷ unresolved ∷
    too_small ∷ moved ∷ too_far ∷ outside ∷ not_settled ∷ number_differs ∷ bytes_differ ∷ []
