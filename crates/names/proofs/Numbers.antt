-- The numbers with which the names of a tape are refused: what holds of each of them holds of the number that is answered.
-- Assumes nothing.
use mathlib.Core.Bool.{Bool, true, false}
use mathlib.Core.List.{List}
use mathlib.Core.Path.{◌≡◌, refl, subst}
use Prim.Native.Nat.{ℕ, zero, suc, ◌+◌, ◌≤◌}
use native.Mathlib.Omega.{arith}
use lib.Dec.{eqb, ltb}
use lib.ListN.{length, get_or, replicate}
use borrow.Author.Tests.{eqb-true, eqb-false}
use Rattle.refusals.specs.AnswerAt.{AnswerAt, Fine}
use Rattle.refusals.specs.Table.{no_room, name_taken, bad_record, no_row, cut_short, unpaired, too_deep}
use Rattle.little.specs.Little.{number_at}
use Rattle.symbols.specs.declared.SymbolTable.{SymbolTable}
use Rattle.tape.specs.Record.{bytes_at}
use Rattle.form.specs.Form.{max_tape, declares, tape_form}
use Rattle.form.specs.Statements.{is_last}
use Rattle.form.proofs.Statements.{not_empty}
use Rattle.form.proofs.Numbers.{FaultBy, then_by, Number, no_refusal, a_refusal, either, refused_by, form_number}
use Rattle.names.specs.declared.Walk.{Walk}
use Rattle.names.specs.Names.{names_of}
use Rattle.names.specs.Steps.{walk, walk_after, taken_in, fault_of, edges_after, declared_on}
use Rattle.names.proofs.Filling.{Filling, fill_start, fill_past, fill_last, fill_refused, fill_on}

module _ (P : ℕ → Type 0) (room : P no_room) (taken : P name_taken) where
  -- ---- a declaration

  fault_number : (links : List ℕ) (w : Walk) (r : List ℕ) → Number P (fault_of links w r)
  unfolding fault_of
  fault_number links w r =
      either (declares (get_or r 0 0))
      (either (taken_in links w.names w.scope (number_at 2 r 1)) (a_refusal taken)
      (either (ltb (w.names + 1) 1024) no_refusal (a_refusal room)))
      no_refusal

  -- ---- all declarations of a tape, from an offset on, where at most n bytes are left

  module _ (tape : List ℕ) where
    abbrev Names : Type 0
    Names = FaultBy P (declared_on tape)

    answered : {a : AnswerAt SymbolTable} → FaultBy P a → a ≡ declared_on tape → Names
    answered h e = subst (FaultBy P) e h

    fill_number : (n : ℕ) (links : List ℕ) (w : Walk) (at : ℕ) → length tape ≤ at + n → Filling tape links w at → Names
    fill_number zero links w at most f = answered tt (fill_past f (omega arith))
    fill_number (suc n) links w at most f =
        go (is_last here) refl (eqb (fault_of links w here) 0) refl
        (λ more e. fill_number n next (walk_after next w here) (at + length here) (omega (arith, not_empty here more))
        (fill_on f refl more refl e refl refl))
      where
        here : List ℕ
        here = bytes_at tape at

        next : List ℕ
        next = edges_after links w here

        go : (l : Bool) → is_last here ≡ l → (z : Bool) → eqb (fault_of links w here) 0 ≡ z
            → (is_last here ≡ false → fault_of links w here ≡ 0 → Names) → Names
        go true last z e on = answered tt (fill_last f refl last)
        go false last true e on = on last (eqb-true _ 0 e)
        go false last false e on =
            let some = eqb-false (fault_of links w here) 0 e in
            answered (refused_by (fault_number links w here) some) (fill_refused f refl last refl some)

    declared_number : tape_form tape ≡ Fine tt → Names
    declared_number fine = fill_number (length tape) (replicate 6144 0) (walk 0 0) 0 (omega arith) (fill_start tape fine refl refl)

-- ---- form, then names

module _ (P : ℕ → Type 0) (room : P no_room) (taken : P name_taken) (bad : P bad_record) (row : P no_row) (short : P cut_short)
    (scope : P unpaired) (deep : P too_deep) where
  pub names_number : (tape : List ℕ) → length tape ≤ max_tape → FaultBy P (names_of tape)
  unfolding names_of declared_on
  names_number tape few =
      then_by P (λ u. declared_on tape) (tape_form tape) (form_number P bad row short scope deep false tape few)
      (λ u fine. declared_number P room taken tape fine)
