-- The scopes of a tape, as its statements open and close them. Assumes nothing: these are definitions.
use Rattle.std.specs.Prelude.{ℕ, suc, List, [], ◌∷◌, ltb, get_or, drop}
use Rattle.refusals.specs.Answer.{pick}
use Rattle.edges.specs.Edges.{root}
use Rattle.form.specs.Statements.{What, Instruction, Open, Close, Label, Constant, SetPlace, Byte, Word, Screen, Statement, statements}

-- behind some statements: how many names they declare, and the nodes of the scopes that are open, the innermost first.
-- "Nodes are numbered as made": declaration k of a tape is node k
pub record Scopes : Type 0 where
  pub names : ℕ
  pub around : List ℕ

abbrev pub scopes : ℕ → List ℕ → Scopes
scopes n around = record { names = n; around = around }

-- before the first
abbrev pub outermost : Scopes
outermost = scopes 0 []

-- the innermost scope, or the root
abbrev pub scope_of : Scopes → ℕ
scope_of s = get_or s.around 0 root

-- behind one statement more
abbrev pub scopes_after : Scopes → What → Scopes
scopes_after s (Open id) = scopes (suc s.names) (suc s.names ∷ s.around)
scopes_after s Close = scopes s.names (drop 1 s.around)
scopes_after s (Label id) = scopes (suc s.names) s.around
scopes_after s (Constant id) = scopes (suc s.names) s.around
scopes_after s (Instruction mnemonic mode suffix) = s
scopes_after s SetPlace = s
scopes_after s Byte = s
scopes_after s Word = s
scopes_after s (Screen petscii) = s

-- and behind several
abbrev pub scopes_behind : Scopes → List Statement → Scopes
scopes_behind s [] = s
scopes_behind s (x ∷ xs) = scopes_behind (scopes_after s x.says) xs

-- the statements that begin before an offset
abbrev pub before : ℕ → List Statement → List Statement
before at [] = []
before at (x ∷ xs) = pick (ltb x.at at) (x ∷ before at xs) []

-- the scope in which the record at an offset of a tape stands
unfoldable pub scope_at : List ℕ → ℕ → ℕ
scope_at tape at = scope_of (scopes_behind outermost (before at (statements tape)))
