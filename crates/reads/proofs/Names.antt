-- The names of a tape, where the memory for its notes is whole; and how many they are. Assumes nothing.
use mathlib.Core.List.{List, [], ◌∷◌}
use mathlib.Core.Path.{◌≡◌}
use Prim.Native.Nat.{ℕ, ◌+◌, ◌<◌}
use native.Mathlib.Omega.{arith}
use borrow.Author.Tests.{eq-eqb}
use Rattle.refusals.specs.AnswerAt.{Fine}
use Rattle.symbols.specs.declared.SymbolTable.{SymbolTable}
use Rattle.form.specs.Form.{max_tape}
use Rattle.form.specs.Statements.{What, Instruction, Open, Close, Label, Constant, SetPlace, Byte, Word, Screen, Statement, statements}
use Rattle.names.specs.Scopes.{Scopes, outermost, scopes_after, scopes_behind}
use Rattle.names.specs.Names.{names_of, declare_of}
use Rattle.names.proofs.Kept.{declared_count}
use Rattle.walk.specs.Walk.{names_in}
use Rattle.walk.specs.Values.{declarations}

pub declare_is : (tape : List ℕ) {places : ℕ} → places ≡ max_tape → declare_of tape places ≡ names_of tape
unfolding declare_of
declare_is tape e = rw (eq-eqb _ 65536 e)

-- ---- how many names there are

names_said : (s : Scopes) (x : What) → (scopes_after s x).names ≡ s.names + names_in x
names_said s (Open id) = omega arith
names_said s Close = omega arith
names_said s (Label id) = omega arith
names_said s (Constant id) = omega arith
names_said s (Instruction mnemonic mode suffix) = omega arith
names_said s SetPlace = omega arith
names_said s Byte = omega arith
names_said s Word = omega arith
names_said s (Screen petscii) = omega arith

names_behind : (s : Scopes) (xs : List Statement) → (scopes_behind s xs).names ≡ s.names + declarations xs
names_behind s [] = omega arith
names_behind s (x ∷ xs) = omega (arith, names_behind (scopes_after s x.says) xs, names_said s x.says)

pub few_names : (tape : List ℕ) {t : SymbolTable} → names_of tape ≡ Fine t → declarations (statements tape) < 1024
few_names tape fine =
    let all = names_behind outermost (statements tape) in
    let count = declared_count tape fine in
    omega (arith, all, count.0, count.1)
