-- What a record says, by its kind: how many names it declares, how many bytes it writes, and where the place goes.
-- Assumes nothing.
use Rattle.std.specs.Prelude.{Option, None, Some}
use mathlib.Core.Bool.{Bool, true, false, ◌&&◌}
use mathlib.Core.List.{List, [], ◌∷◌}
use mathlib.Core.Path.{◌≡◌, refl, sym, ap, ◌∙◌}
use Prim.Native.Nat.{ℕ, ◌+◌, ◌≤◌}
use native.Mathlib.Omega.{arith}
use lib.Dec.{leb}
use lib.IntN.{ℤ, pos, negsuc, nat_abs}
use lib.ListN.{get_or}
use borrow.Author.Tests.{leb-true, ltb-true, ne_eqb}
use Rattle.refusals.specs.Answer.{pick}
use Rattle.refusals.specs.Each.{Each}
use Rattle.refusals.proofs.Never.{never}
use Rattle.refusals.proofs.Pick.{at_false}
use Rattle.opcodes.specs.declared.Form.{Form}
use Rattle.opcodes.specs.Manual.{forms_of}
use Rattle.opcodes.specs.Encode.{length_of}
use Rattle.opcodes.proofs.Manual.{short_form, short_forms}
use Rattle.tape.specs.Kinds.{instruction, open_scope, label, constant, set_place}
use Rattle.form.specs.Form.{declares}
use Rattle.form.specs.Statements.{What, Instruction, Open, Close, Label, Constant, SetPlace, Byte, Word, Screen, what_of, is_inner}
use Rattle.form.proofs.Said as Said
use Rattle.form.proofs.Said.{what_by, by_kind}
use Rattle.walk.specs.Walk.{takes_early, form_length, length_in, moved_to, is_place, place_after, names_in}

-- ---- by its kind

module _ (r : List ℕ) where
  module _ (k : ℕ) (is : k ≡ get_or r 0 0) where
    -- by one kind
    said : (n : ℕ) → k ≡ n → what_of r ≡ what_by r n
    said n e = Said.said r k is ∙ ap (what_by r) e

    -- ---- names

    pub names_said : (m : ℕ) → pick (declares k) (m + 1) m ≡ m + names_in (what_of r)
    unfolding declares
    names_said m =
        let none : m ≡ m + 0 = omega arith in
        rw (said k refl)
        (by_kind r (λ n x. pick (declares n) (m + 1) m ≡ m + names_in x) none refl none refl refl none none none
        (λ n e. sym (at_false (m + 1) m e) ∙ none) k)

    -- ---- places

    module _ (v : Option ℤ) where
      pub place_set : k ≡ set_place → (place : ℕ) → {n : ℕ} → n ≡ moved_to v place → n ≡ place_after (what_of r) v place
      place_set e place h = rw (said set_place e) h

      pub place_other : (k ≡ set_place → ⊥) → (place : ℕ) → {n : ℕ} → n ≡ length_in (what_of r) v → place + n ≡ place_after (what_of r) v place
      place_other d place h =
          let none : place + 0 ≡ place = omega arith in
          ap (λ (m : ℕ). place + m) h
          ∙ rw (said k refl)
          (by_kind r (λ n x. (n ≡ set_place → ⊥) → place + length_in x v ≡ place_after x v place) (λ d. refl) (λ d. none) (λ d. none) (λ d. none)
          (λ d. none) (λ d. absurd (d refl)) (λ d. refl) (λ d. refl) (λ n f d. refl) k d)

-- ---- no statement is longer than three bytes

form_most : (fs : List Form) (v : Option ℤ) → Each short_form fs → form_length fs v ≤ 3
form_most [] v h = omega arith
form_most (f ∷ []) v h = omega (arith, h.0)
form_most (f ∷ g ∷ fs) v h = go (takes_early f v) (form_most (g ∷ fs) v h.1) h.0
  where
    go : (t : Bool) {n : ℕ} → n ≤ 3 → short_form f → pick t (length_of f) n ≤ 3
    go true le s = omega (arith, s)
    go false le s = le

length_most : (x : What) (v : Option ℤ) → length_in x v ≤ 3
length_most (Instruction mnemonic mode suffix) v = form_most (forms_of mnemonic mode suffix) v (short_forms mnemonic mode suffix)
length_most (Open id) v = omega arith
length_most Close v = omega arith
length_most (Label id) v = omega arith
length_most (Constant id) v = omega arith
length_most SetPlace v = omega arith
length_most Byte v = omega arith
length_most Word v = omega arith
length_most (Screen petscii) v = omega arith

pub few_bytes : (x : What) (v : Option ℤ) {n : ℕ} → n ≡ length_in x v → n ≤ 3
few_bytes x v h = omega (arith, h, length_most x v)

-- ---- the place stays low

place_in : (z : ℤ) → is_place z ≡ true → nat_abs z ≤ 65536
place_in (pos n) e = go (leb 0 n) (leb n 65536) refl e
  where
    go : (a b : Bool) → leb n 65536 ≡ b → (a && b) ≡ true → n ≤ 65536
    go true true p e = leb-true n 65536 p
    go true false p e = never (cc)
    go false b p e = never (cc)
place_in (negsuc n) e = never (cc)

pub moved_most : (v : Option ℤ) (p m : ℕ) → p ≤ m → 65536 ≤ m → moved_to v p ≤ m
moved_most None p m h b = h
moved_most (Some z) p m h b = go (is_place z) refl
  where
    go : (t : Bool) → is_place z ≡ t → pick t (nat_abs z) p ≤ m
    go true e = omega (arith, place_in z e)
    go false e = h

pub place_most : (x : What) (v : Option ℤ) (p m : ℕ) → p ≤ m → 65536 ≤ m → place_after x v p ≤ m + 3
place_most SetPlace v p m h b = omega (arith, moved_most v p m h b)
place_most (Instruction mnemonic mode suffix) v p m h b = omega (arith, length_most (Instruction mnemonic mode suffix) v)
place_most Byte v p m h b = omega arith
place_most Word v p m h b = omega arith
place_most (Screen petscii) v p m h b = omega arith
place_most (Open id) v p m h b = omega arith
place_most Close v p m h b = omega arith
place_most (Label id) v p m h b = omega arith
place_most (Constant id) v p m h b = omega arith

-- a record of an expression declares none
pub inner_none : (r : List ℕ) → is_inner r ≡ true → declares (get_or r 0 0) ≡ false
unfolding declares
inner_none r e =
    let k = get_or r 0 0 in
    let h = ltb-true k instruction e in
    rw (ne_eqb k open_scope (λ p. omega arith), ne_eqb k label (λ p. omega arith), ne_eqb k constant (λ p. omega arith))
