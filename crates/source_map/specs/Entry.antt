-- What an entry of the source map is, what it means, and which words of a map's memory hold it. Assumes nothing: these are
-- definitions.
use Rattle.std.specs.Prelude.{Bool, ◌&&◌, ℕ, ◌+◌, ◌*◌, List, [], ◌∷◌, eqb, leb, ltb, get_or}
use Rattle.refusals.specs.Answer.{pick}
use Rattle.source_map.specs.declared.Entry.{Entry}

-- ---- its meaning

-- "scope 0 to 1,023"
abbrev pub last_scope : ℕ
last_scope = 1023

-- "place and length 0 to 65,536, scope 0 to 1,023, span any u32"
abbrev pub in_range : Entry → Bool
in_range e = leb e.scope last_scope && leb e.pc 65536 && leb e.len 65536

-- "half-open range holds the address; length 0 never does"
abbrev pub holds : ℕ → Entry → Bool
holds address e = leb e.pc address && ltb address (e.pc + e.len)

-- an entry of the scope `from` gets the scope `to` and the span; another stays
unfoldable pub moved : ℕ → ℕ → ℕ → Entry → Entry
moved from to span e = pick (eqb e.scope from) (record { scope = to; span = span; pc = e.pc; len = e.len }) e

-- ---- its words

-- how many words an entry has
abbrev pub width : ℕ
width = 4

abbrev pub words_of : Entry → List ℕ
words_of e = e.scope ∷ e.span ∷ e.pc ∷ e.len ∷ []

-- entry i stands behind the count and the i entries before it
unfoldable pub entry_at : List ℕ → ℕ → Entry
entry_at memory i =
    let at = 1 + width * i in
    record { scope = get_or memory at 0; span = get_or memory (at + 1) 0; pc = get_or memory (at + 2) 0; len = get_or memory (at + 3) 0 }
