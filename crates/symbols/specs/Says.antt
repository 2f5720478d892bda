-- What the answers say in document 01's terms. A table goes in by value, so where a call is refused the caller's own table stands.
-- Assumes nothing: these are definitions.
use Rattle.std.specs.Prelude.{ℕ, Result, Ok, Err}
use Rattle.refusals.specs.Answer.{Answer, Done, Refused}
use Rattle.refusals.specs.Says.{number_of}
use Rattle.refusals.specs.declared.Refusal.{Refusal}
use Rattle.symbols.specs.declared.SymbolTable.{SymbolTable}
use Rattle.symbols.specs.declared.Inserted.{Inserted}

-- the table afterwards, and the outcome
abbrev pub says_changed : SymbolTable → Result SymbolTable Refusal → SymbolTable × Answer (Unit {0})
says_changed own (Ok t) = (t, Done tt)
says_changed own (Err e) = (own, Refused (number_of e))

-- the table afterwards, and the node
abbrev pub says_inserted : SymbolTable → Result Inserted Refusal → SymbolTable × Answer ℕ
says_inserted own (Ok i) = (i.table, Done i.node)
says_inserted own (Err e) = (own, Refused (number_of e))
