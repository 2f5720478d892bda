-- A record more: what it says by its kind, and what it adds to what comes behind it. Assumes nothing.
use Rattle.std.specs.Prelude.{None, Some}
use mathlib.Core.Bool.{Bool, true, false}
use mathlib.Core.List.{List, [], ◌∷◌}
use mathlib.Core.Path.{◌≡◌, refl, sym, ap, ◌∙◌, subst}
use Prim.Native.Nat.{ℕ, ◌+◌}
use native.Mathlib.Omega.{arith}
use lib.IntN.{ℤ, pos}
use lib.ListN.{length, get_or, drop}
use lib.Seq.{get_or-drop}
use Rattle.refusals.specs.Answer.{pick}
use Rattle.refusals.proofs.Pick.{at_false}
use Rattle.tape.specs.Record.{bytes_at}
use Rattle.form.specs.Form.{declares, is_numbered}
use Rattle.form.specs.Statements.{what_of, Statement, is_last, is_inner, statement_of, statements_at}
use Rattle.form.proofs.Said.{said, by_kind, numbered_declares}
use Rattle.form.proofs.Statements.{statements_inner, statements_one}
use Rattle.walk.specs.Walk.{names_in}
use Rattle.walk.specs.Values.{Values}
use Rattle.walk.proofs.Records.{inner_none}
use Rattle.number_list.specs.Lists.{counts, valued, listed}

-- ---- by its kind

-- t: it is a label or a constant; d: it declares a name
abbrev pub valued_by : (t d : Bool) → List ℤ → Values
valued_by t d l = pick t (Some (get_or l 0 (pos 0)) ∷ []) (pick d (None ∷ []) [])

abbrev pub listed_by : (t : Bool) → List ℤ → List ℤ
listed_by t l = pick t (get_or l 0 (pos 0) ∷ []) []

module _ (r : List ℕ) (k : ℕ) (is : k ≡ get_or r 0 0) where
  pub counts_said : counts (what_of r) ≡ pick (is_numbered k) 1 0
  unfolding is_numbered
  counts_said =
      rw (said r k is)
      (by_kind r (λ n x. counts x ≡ pick (is_numbered n) 1 0) refl refl refl refl refl refl refl refl
      (λ n e. at_false 1 0 (numbered_declares n e)) k)

  pub names_said : names_in (what_of r) ≡ pick (declares k) 1 0
  unfolding declares
  names_said =
      rw (said r k is)
      (by_kind r (λ n x. names_in x ≡ pick (declares n) 1 0) refl refl refl refl refl refl refl refl (λ n e. at_false 1 0 e) k)

  pub valued_said : (l : List ℤ) → valued (what_of r) l ≡ valued_by (is_numbered k) (declares k) l
  unfolding is_numbered declares
  valued_said l =
      rw (said r k is)
      (by_kind r (λ n x. valued x l ≡ valued_by (is_numbered n) (declares n) l) refl refl refl refl refl refl refl refl
      (λ n e. at_false (None ∷ []) [] e ∙ at_false _ _ (numbered_declares n e)) k)

  pub listed_said : (l : List ℤ) → listed (what_of r) l ≡ listed_by (is_numbered k) l
  unfolding is_numbered
  listed_said l =
      rw (said r k is)
      (by_kind r (λ n x. listed x l ≡ listed_by (is_numbered n) l) refl refl refl refl refl refl refl refl
      (λ n e. at_false _ _ (numbered_declares n e)) k)

-- the first of what is left of a list
pub first_left : (n : ℕ) (l : List ℤ) → get_or (drop n l) 0 (pos 0) ≡ get_or l n (pos 0)
first_left n l = get_or-drop n l 0 (pos 0) ∙ ap (λ (i : ℕ). get_or l i (pos 0)) (omega arith)

-- ---- the statements from a record on: those behind it, or one more

module _ (tape : List ℕ) (at : ℕ) {r : List ℕ} (is : r ≡ bytes_at tape at) (more : is_last r ≡ false) (k : ℕ) (kind : k ≡ get_or r 0 0) where
  -- a record of an expression declares no name, and has no number
  pub by_record : (P : (t d : Bool) → List Statement → Type 0) → P false false (statements_at tape (at + length r))
      → P (is_numbered k) (declares k) (statement_of at r ∷ statements_at tape (at + length r))
      → P (is_numbered k) (declares k) (statements_at tape at)
  by_record P inner one = go (is_inner r) refl
    where
      last : is_last (bytes_at tape at) ≡ false
      last = ap is_last (sym is) ∙ more

      go : (i : Bool) → is_inner r ≡ i → P (is_numbered k) (declares k) (statements_at tape at)
      go true e =
          let none-declared : declares k ≡ false = ap declares kind ∙ inner_none r e in
          let same : statements_at tape at ≡ statements_at tape (at + length r) =
          statements_inner tape at last (ap is_inner (sym is) ∙ e) ∙ ap (λ (x : List ℕ). statements_at tape (at + length x)) (sym is) in
          rw (none-declared, numbered_declares k none-declared, same) inner
      go false e =
          let first : statements_at tape at ≡ statement_of at r ∷ statements_at tape (at + length r) =
          statements_one tape at last (ap is_inner (sym is) ∙ e)
          ∙ ap (λ (x : List ℕ). statement_of at x ∷ statements_at tape (at + length x)) (sym is) in
          subst (P (is_numbered k) (declares k)) (sym first) one
