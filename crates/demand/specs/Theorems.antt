-- What is proved of builder and checker, over the bytes of a tape, arguments, form and names included, and by the definitions that the
-- contracts of `build` and `check` cite. Assumes nothing: these are the statements.
use Rattle.std.specs.Prelude.{ℕ, true, false, List, ◌↔◌, ◌⊎◌, ◌≡◌, ℤ, length, take}
use Rattle.refusals.specs.AnswerAt.{Fine, Fault}
use Rattle.refusals.specs.Table.{argument}
use Rattle.symbols.specs.declared.SymbolTable.{SymbolTable}
use Rattle.edges.specs.Edges.{has}
use Rattle.form.specs.Statements.{statements}
use Rattle.names.specs.Names.{names_of}
use Rattle.walk.specs.Walk.{origin}
use Rattle.passes.specs.Least.{Least}
use Rattle.reads.specs.Reads.{reads_on}
use Rattle.builder.specs.Call.{Memory, build_of}
use Rattle.verdict.specs.Verdict.{covered}
use Rattle.checker.specs.Refusals.{refusals}
use Rattle.checker.specs.Call.{is_allowed, check_of}
use Rattle.demand.specs.Demand.{Demand}

-- the checker accepts exactly what fits
abbrev pub Exact : Type 0
Exact =
    (tape : List ℕ) (initial : ℕ) (numbers : List ℤ) (start : ℕ) (bytes : List ℕ)
    → (check_of tape initial numbers start bytes ≡ Fine tt) ↔ Demand tape initial numbers start bytes

-- every build that finishes is accepted: by the numbers that it leaves in its list, its start, and the bytes that it leaves in its image
abbrev pub Accepted : Type 0
Accepted =
    (tape : List ℕ) (initial : ℕ) (before after : Memory) (start end count passes : ℕ)
    → build_of tape initial before ≡ (Fine (start, end, count, passes), after)
    → check_of tape initial (take count after.list) start (covered start end after.image) ≡ Fine tt

-- and reports "the least n, 1 to 16, with Ln equal to L(n-1)"
abbrev pub Counted : Type 0
Counted =
    (tape : List ℕ) (initial : ℕ) (before after : Memory) (start end count passes : ℕ)
    → build_of tape initial before ≡ (Fine (start, end, count, passes), after)
    → (t : SymbolTable) × (names_of tape ≡ Fine t) × Least (reads_on tape t) (statements tape) (origin initial) passes

-- a check is refused with 1 at 0 for an argument, and else with one of the numbers listed for it
abbrev pub Refused : Type 0
Refused =
    (tape : List ℕ) (initial : ℕ) (numbers : List ℤ) (start : ℕ) (bytes : List ℕ) (n at : ℕ)
    → check_of tape initial numbers start bytes ≡ Fault n at
    → ((is_allowed (length tape) initial start (length bytes) ≡ false) × (n ≡ argument) × (at ≡ 0))
    ⊎ ((is_allowed (length tape) initial start (length bytes) ≡ true) × (has n refusals ≡ true))
