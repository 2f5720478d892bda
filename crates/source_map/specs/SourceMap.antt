-- Document 01's "Source map", over its entries in the order of adding, and how lent memory holds them. Assumes nothing: these
-- are definitions.
use Rattle.std.specs.Prelude.{Bool, true, ◌&&◌, ℕ, zero, suc, ◌+◌, ◌*◌, List, [], ◌∷◌, ◌++◌, map, eqb, leb, ltb, length, get_or, Option, None, Some}
use Rattle.refusals.specs.Answer.{Answer, Done, Refused, pick}
use Rattle.refusals.specs.Table.{argument, no_room}
use Rattle.refusals.specs.Memory.{over}
use Rattle.source_map.specs.declared.Entry.{Entry}
use Rattle.source_map.specs.Entry.{last_scope, in_range, holds, moved, width, words_of, entry_at}

-- ---- a map in lent memory

-- "at most 4,096 entries"
abbrev pub capacity : ℕ
capacity = 4096

-- the first word says how many entries there are
abbrev pub count_in : List ℕ → ℕ
count_in memory = get_or memory 0 0

-- n entries, from number i on
abbrev pub entries_from : List ℕ → ℕ → ℕ → List Entry
entries_from memory i zero = []
entries_from memory i (suc n) = entry_at memory i ∷ entries_from memory (suc i) n

-- the entries in the order of adding
unfoldable pub entries : List ℕ → List Entry
entries memory = entries_from memory 0 (count_in memory)

-- the words of entries, one behind the other
abbrev pub words_of_all : List Entry → List ℕ
words_of_all [] = []
words_of_all (e ∷ es) = words_of e ++ words_of_all es

-- the memory with these entries in it: their number, then they; what lies behind them is as it was
unfoldable pub stored : List ℕ → List Entry → List ℕ
stored memory es = over memory 0 (length es ∷ words_of_all es)

-- every entry is in range
abbrev pub all_in_range : List Entry → Bool
all_in_range [] = true
all_in_range (e ∷ es) = in_range e && all_in_range es

-- memory of the one length there is, and a count that it has room for
abbrev pub shaped : List ℕ → Bool
shaped memory = eqb (length memory) (1 + width * capacity) && leb (count_in memory) capacity

-- such memory, with entries in range
abbrev pub sound : List ℕ → Bool
sound memory = shaped memory && all_in_range (entries memory)

-- "A table, map or pen with a bad index [..] is a 1"
abbrev pub of_map : {A : Type 0} → List ℕ → Answer A → Answer A
of_map memory a = pick (sound memory) a (Refused argument)

-- "Refused calls leave table, map [..] unchanged": the memory after a call, by the entries that it gives
abbrev pub map_after : List ℕ → Answer (List Entry) → List ℕ
map_after memory (Done es) = stored memory es
map_after memory (Refused n) = memory

-- ---- the calls

-- how many entries there are
abbrev pub count : List ℕ → Answer ℕ
count memory = of_map memory (Done (count_in memory))

-- the entry of that number
abbrev pub entry : List ℕ → ℕ → Answer Entry
entry memory i = of_map memory (pick (ltb i (count_in memory)) (Done (entry_at memory i)) (Refused argument))

-- no entries
abbrev pub clear : List ℕ → Answer (List Entry)
clear memory = of_map memory (Done [])

-- one more entry, behind the others
abbrev pub add : List ℕ → Entry → Answer (List Entry)
add memory e =
    of_map memory
    (pick (in_range e)
    (pick (ltb (count_in memory) capacity) (Done (entries memory ++ e ∷ [])) (Refused no_room))
    (Refused argument))

-- "first added entry whose half-open range holds the address"
abbrev pub first_holding : ℕ → List Entry → Option Entry
first_holding address [] = None
first_holding address (e ∷ es) = pick (holds address e) (Some e) (first_holding address es)

abbrev pub address_to_offset : List ℕ → ℕ → Answer (Option Entry)
address_to_offset memory address = of_map memory (Done (first_holding address (entries memory)))

-- every entry of the scope `from` gets the scope `to` and the span
abbrev pub moved_all : ℕ → ℕ → ℕ → List Entry → List Entry
moved_all from to span = map (moved from to span)

abbrev pub move_offsets : List ℕ → ℕ → ℕ → ℕ → Answer (List Entry)
move_offsets memory from to span =
    of_map memory
    (pick (leb from last_scope && leb to last_scope)
    (Done (moved_all from to span (entries memory)))
    (Refused argument))
