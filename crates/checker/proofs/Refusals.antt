-- A check whose arguments are in their ranges is refused with one of the numbers listed for it; so a 1 is for arguments alone.
-- Assumes nothing.
use mathlib.Core.Bool.{Bool, true, false}
use mathlib.Core.List.{List}
use mathlib.Core.Path.{◌≡◌, refl, subst}
use Prim.Native.Nat.{ℕ, ◌≤◌}
use lib.Dec.{eqb}
use lib.IntN.{ℤ}
use lib.ListN.{length}
use Rattle.refusals.specs.Answer.{pick}
use Rattle.refusals.specs.AnswerAt.{AnswerAt, Fine, Fault, and_then}
use Rattle.refusals.specs.Table.{argument, number_differs, bytes_differ}
use Rattle.refusals.proofs.Never.{never}
use Rattle.pen.specs.Pens.{size}
use Rattle.symbols.specs.declared.SymbolTable.{SymbolTable}
use Rattle.edges.specs.Edges.{has}
use Rattle.form.specs.Form.{max_tape}
use Rattle.form.specs.Statements.{statements}
use Rattle.form.proofs.Numbers.{FaultBy, then_by, number_by}
use Rattle.names.specs.Names.{names_of}
use Rattle.names.proofs.Kept.{names_sound}
use Rattle.names.proofs.Numbers.{names_number}
use Rattle.walk.specs.Walk.{Origin, origin}
use Rattle.walk.specs.Values.{numbered}
use Rattle.tries.specs.Tries as T
use Rattle.tries.specs.Tries.{Trying, tries}
use Rattle.tries.proofs.Numbers.{tries_number}
use Rattle.reads.specs.Reads.{reads_on}
use Rattle.reads.proofs.Numbers.{computes}
use Rattle.number_list.specs.Lists.{count, values_of}
use Rattle.compares.specs.Compared.{checker}
use Rattle.verdict.specs.Verdict.{is_written, judged}
use Rattle.checker.specs.Check.{checked_by, checked}
use Rattle.checker.specs.Refusals.{refusals}
use Rattle.checker.specs.Call.{is_allowed, check_of}
use Rattle.checker.proofs.Checks.{allowed}

-- a number that stands in the list
abbrev Among : ℕ → Type 0
Among n = has n refusals ≡ true

-- what passes a test, or is refused with such a number
pick_by : {A : Type 0} (t : Bool) (a : AnswerAt A) (n at : ℕ) → FaultBy Among a → Among n → FaultBy Among (pick t a (Fault n at))
pick_by true a n at h k = h
pick_by false a n at h k = k

module _ (tape : List ℕ) (o : Origin) (numbers : List ℤ) (start : ℕ) (bytes : List ℕ) where
  -- ---- what was written, judged

  judged_number : (t : Trying) → FaultBy Among (judged start bytes t)
  unfolding judged has
  judged_number t = pick_by (is_written start bytes t) (Fine tt) bytes_differ 0 tt refl

  module _ (few : length tape ≤ max_tape) (low : o.initial ≤ size) where
    -- ---- the list's length and the tries, of a tape whose names make the table t

    checked_by_number : {t : SymbolTable} → names_of tape ≡ Fine t
        → FaultBy Among (checked_by (reads_on tape t) (statements tape) o numbers start bytes)
    unfolding checked_by has
    checked_by_number {t} fine =
        let L = values_of (statements tape) numbers in
        let all = tries (reads_on tape t) checker (numbered L) (T.start o) (statements tape) in
        let tried = tries_number Among refl refl refl refl refl checker refl refl (reads_on tape t) (numbered L) tape
        (computes tape t (numbered L)) (names_sound tape fine).0 o low in
        pick_by (eqb (length numbers) (count (statements tape))) (and_then all (judged start bytes)) number_differs 0
        (then_by Among (judged start bytes) all tried (λ u e. judged_number u)) refl

    -- ---- form and names before them

    checked_number : FaultBy Among (checked tape o numbers start bytes)
    unfolding checked has
    checked_number =
        then_by Among (λ t. checked_by (reads_on tape t) (statements tape) o numbers start bytes) (names_of tape)
        (names_number Among refl refl refl refl refl refl refl tape few) (λ t fine. checked_by_number fine)

-- ---- the check

module _ (tape : List ℕ) (initial : ℕ) (numbers : List ℤ) (start : ℕ) (bytes : List ℕ) where
  module _ (few : length tape ≤ max_tape) (low : initial ≤ size) {n at : ℕ} where
    pub checked_with : checked tape (origin initial) numbers start bytes ≡ Fault n at → has n refusals ≡ true
    checked_with e = number_by Among (checked_number tape (origin initial) numbers start bytes few low) e

    -- none is the number for arguments
    pub not_argument : checked tape (origin initial) numbers start bytes ≡ Fault n at → n ≡ argument → ⊥
    unfolding has
    not_argument e is = let no : false ≡ true = subst Among is (checked_with e) in never (cc)

  -- ---- the call: it answers a 1 only where an argument is outside its range

  abbrev ranges : Bool
  ranges = is_allowed (length tape) initial start (length bytes)

  pub argument_only : {at : ℕ} → check_of tape initial numbers start bytes ≡ Fault argument at → ranges ≡ false
  unfolding check_of
  argument_only {at} e = go ranges refl e
    where
      go : (t : Bool) → ranges ≡ t → pick t (checked tape (origin initial) numbers start bytes) (Fault argument 0) ≡ Fault argument at
          → ranges ≡ false
      go true in_range_lem e = let a = allowed _ _ _ _ in_range_lem in absurd (not_argument a.tape a.initial e refl)
      go false in_range_lem e = in_range_lem
