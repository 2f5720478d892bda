-- The number list has one number for each label and constant. Spread over the names again, it is what the pass gave, where no statement
-- is refused. Assumes nothing.
use Rattle.std.specs.Prelude.{Option, None, Some}
use mathlib.Core.List.{List, [], ◌∷◌, ◌++◌, map}
use mathlib.Core.Path.{◌≡◌, refl, sym, ap, ◌∙◌, subst}
use Prim.Native.Nat.{ℕ, suc}
use native.Mathlib.Omega.{arith}
use lib.IntN.{ℤ}
use lib.ListN.{length, drop, length-append}
use Rattle.refusals.specs.AnswerAt.{Fine}
use Rattle.refusals.proofs.Never.{never}
use Rattle.refusals.proofs.Answers.{fine_then}
use Rattle.symbols.specs.Symbols.{number_or0}
use Rattle.form.specs.Statements.{What, Instruction, Open, Close, Label, Constant, SetPlace, Byte, Word, Screen, Statement}
use Rattle.evaluator.specs.Expression.{Value, Number, Unresolved, Refuses}
use Rattle.walk.specs.declared.Walk.{Walk}
use Rattle.walk.specs.Walk.{here, names_in}
use Rattle.walk.specs.Values.{Values, number_of, value_at, step_at}
use Rattle.passes.specs.Passes.{gives, pass}
use Rattle.compares.specs.declared.Compares.{Compares}
use Rattle.tries.specs.Try.{try_of}
use Rattle.tries.specs.Tries.{Trying, try_at, tried, tries}
use Rattle.tries.proofs.Passed.{tried_has}
use Rattle.number_list.specs.Lists.{counts, count, valued, values_of, listed, number_list}

-- ---- how many

listed_length : (x : What) (l : List ℤ) → length (listed x l) ≡ counts x
listed_length (Label id) l = refl
listed_length (Constant id) l = refl
listed_length (Open id) l = refl
listed_length Close l = refl
listed_length (Instruction mnemonic mode suffix) l = refl
listed_length SetPlace l = refl
listed_length Byte l = refl
listed_length Word l = refl
listed_length (Screen petscii) l = refl

pub list_length : (xs : List Statement) (l : List ℤ) → length (number_list xs l) ≡ count xs
list_length [] l = refl
list_length (x ∷ xs) l =
    let rest = drop (names_in x.says) l in
    length-append (listed x.says l) (number_list xs rest) ∙ omega (arith, listed_length x.says l, list_length xs rest)

-- ---- there and back

-- the values of all names, put into the list and spread again
abbrev respread : List Statement → Values → Values
respread xs L = values_of xs (number_list xs (map number_or0 L))

-- of a statement and those behind it
abbrev spread_on : What → List Statement → List ℤ → Values
spread_on x xs l =
    let list = listed x l ++ number_list xs (drop (names_in x) l) in valued x list ++ values_of xs (drop (counts x) list)

-- a statement that passes: a label has a number, a constant has one, a scope has none
module _ (c : Compares) (own : Option ℤ) (w : Walk) (at : ℕ) (xs : List Statement) {L : Values} (rest : respread xs L ≡ L) where
  spread_one : (x : What) (v : Value) {bs : List ℕ} → try_of c own (here w) at x v ≡ Fine bs
      → spread_on x xs (map number_or0 (gives w x (number_of v) ++ L)) ≡ gives w x (number_of v) ++ L
  spread_one (Label id) v e = ap (λ (l : Values). Some (here w) ∷ l) rest
  spread_one (Constant id) (Number z) e = ap (λ (l : Values). Some z ∷ l) rest
  spread_one (Constant id) (Unresolved i) e = never (cc)
  spread_one (Constant id) (Refuses n i) e = never (cc)
  spread_one (Open id) v e = ap (λ (l : Values). None ∷ l) rest
  spread_one Close v e = rest
  spread_one (Instruction mnemonic mode suffix) v e = rest
  spread_one SetPlace v e = rest
  spread_one Byte v e = rest
  spread_one Word v e = rest
  spread_one (Screen petscii) v e = rest

module _ (reads : (ℕ → Option ℤ) → ℤ → ℕ → Value) (c : Compares) (numbers : ℕ → Option ℤ) where
  pub spread_back : (t : Trying) (xs : List Statement) {u : Trying} → tries reads c numbers t xs ≡ Fine u
      → values_of xs (number_list xs (map number_or0 (pass reads numbers t.walk xs))) ≡ pass reads numbers t.walk xs
  unfolding pass try_at
  spread_back t [] e = refl
  spread_back t (x ∷ xs) {u} e =
      let w = t.walk in
      let (v, is, more) = fine_then (tried reads c numbers t x) (λ v. tries reads c numbers v xs) u e in
      let p = tried_has reads c numbers t x is in
      let there : v.walk ≡ step_at reads numbers w x = sym (ap (λ (y : Trying). y.walk) p.is) in
      let rest = subst (λ (y : Walk). respread xs (pass reads numbers y xs) ≡ pass reads numbers y xs) there (spread_back v xs more) in
      spread_one c (numbers (suc w.names)) w x.at xs rest x.says (value_at reads numbers w x) p.fine
