-- The packed words: each is found by its mnemonic's number, and what the code reads from them is each row's forms, by one test, which
-- antt computes. Assumes nothing.
use mathlib.Core.Path.{◌≡◌, refl, sym, ap, ◌∙◌}
use mathlib.Core.Bool.{Bool, true, ◌&&◌, and-eq-true_iff}
use mathlib.Core.List.{List, [], ◌∷◌}
use Prim.Native.Nat.{ℕ, zero, suc, ◌+◌, ◌-◌, ◌*◌, ◌/◌, ◌%◌, ◌^◌, ◌≤◌, ◌<◌}
use native.Mathlib.Omega.{arith}
use lib.Dec.{eqb, ltb}
use lib.ListN.{get_or, get_or-eq_default}
use borrow.Author.Tests.{ltb-true, eq-eqb, ne_eqb}
use Rattle.refusals.specs.Answer.{pick}
use Rattle.opcodes.specs.declared.Form.{Form}
use Rattle.opcodes.specs.Manual.{form, forms_of, pages}
use Rattle.opcodes.specs.Packed.{digit_of, shapes_in, shapes_of, opcodes_in, opcodes_of}
use Rattle.opcodes.specs.Census.{below, triple}
use Rattle.opcodes.proofs.Table.{at_triple}

-- ---- the words of a mnemonic

-- none of the first n numbers, as a match leaves it to its last arm
abbrev NoneBelow : ℕ → ℕ → Type 0
NoneBelow m zero = Unit {0}
NoneBelow m (suc n) = NoneBelow m n × (m ≡ n → ⊥)

past : (m n : ℕ) → NoneBelow m n → n ≤ m
past m zero r = omega arith
past m (suc n) r =
    let h : n ≤ m = past m n r.0 in
    let apart : m ≡ n → ⊥ = r.1 in
    omega arith

-- m is no mnemonic: it has no page
pub no_words : (m : ℕ) → NoneBelow m 56 → (0 ≡ shapes_of m) × (0 ≡ opcodes_of m)
unfolding shapes_of opcodes_of
no_words m r =
    let none : get_or pages m [] ≡ [] = get_or-eq_default pages [] (past m 56 r) in
    (sym (ap shapes_in none), sym (ap opcodes_in none))

-- ---- what the code reads

abbrev shape_at : ℕ → ℕ → ℕ
shape_at m column = digit_of (shapes_of m) column

-- which byte of the opcodes a column has, counted from the right
abbrev byte_at : ℕ → ℕ
byte_at column = digit_of 0x700_600_543_020_100 column

abbrev opcode_at : ℕ → ℕ → ℕ
opcode_at m column = opcodes_of m / 2 ^ (8 * byte_at column) % 256

abbrev unpacked : ℕ → ℕ → List Form
unpacked shape opcode =
    pick (eqb shape 0) [] (pick (eqb shape 4) (form opcode 1 ∷ form (opcode + 8) 2 ∷ []) (form opcode (shape - 1) ∷ []))

-- a byte of the eight, and room for the 8 more of a second opcode
abbrev fits : ℕ → ℕ → Bool
fits m column = ltb (byte_at column) 8 && pick (eqb (shape_at m column) 4) (ltb (opcode_at m column) 248) true

abbrev read : ℕ → ℕ → ℕ → List Form × Bool
read m o s = (unpacked (shape_at m (o * 3 + s)) (opcode_at m (o * 3 + s)), fits m (o * 3 + s))

abbrev meant : ℕ → ℕ → ℕ → List Form × Bool
meant m o s = (forms_of m o s, true)

-- what is read at each mnemonic, mode and suffix is the forms of that row
pub agrees : below (triple read) 840 ≡ below (triple meant) 840
unfolding shapes_of opcodes_of forms_of
agrees = refl

module _ (m o s : ℕ) (h : (m < 56) × (o < 5) × (s < 3)) where
  row_read : read m o s ≡ meant m o s
  row_read = at_triple read meant agrees m o s h

  forms_read : unpacked (shape_at m (o * 3 + s)) (opcode_at m (o * 3 + s)) ≡ forms_of m o s
  forms_read = ap (λ (x : List Form × Bool). x.0) row_read

  fits_read : fits m (o * 3 + s) ≡ true
  fits_read = ap (λ (x : List Form × Bool). x.1) row_read

-- ---- a row that was read: its words, its shape and the place of its opcode

pub record Read (m o s shapes opcodes shape byte : ℕ) : Type 0 where
  pub range : (m < 56) × (o < 5) × (s < 3)
  pub words : (shapes ≡ shapes_of m) × (opcodes ≡ opcodes_of m)
  pub shape_is : shape ≡ digit_of shapes (o * 3 + s)
  pub byte_is : byte ≡ byte_at (o * 3 + s)

module _ {m o s shapes opcodes shape byte : ℕ} (r : Read m o s shapes opcodes shape byte) where
  shape_at_lem : shape ≡ shape_at m (o * 3 + s)
  shape_at_lem = r.shape_is ∙ ap (λ (w : ℕ). digit_of w (o * 3 + s)) r.words.0

  opcode_at_lem : opcodes / 2 ^ (8 * byte) % 256 ≡ opcode_at m (o * 3 + s)
  opcode_at_lem = rw (r.words.1, r.byte_is) refl

  unpacked_is : unpacked shape (opcodes / 2 ^ (8 * byte) % 256) ≡ forms_of m o s
  unpacked_is = rw (shape_at_lem, opcode_at_lem) (forms_read m o s r.range)

  fit : ltb byte 8 && pick (eqb shape 4) (ltb (opcodes / 2 ^ (8 * byte) % 256) 248) true ≡ true
  fit = rw (shape_at_lem, opcode_at_lem, r.byte_is) (fits_read m o s r.range)

  pub byte_fits : byte < 8
  byte_fits = ltb-true _ _ ((and-eq-true_iff _ _).0 fit).0

  pub second_fits : shape ≡ 4 → opcodes / 2 ^ (8 * byte) % 256 < 248
  second_fits e = ltb-true _ _ (rw (eq-eqb _ 4 e) at ((and-eq-true_iff (ltb byte 8) _).0 fit).1)

  pub no_form : shape ≡ 0 → [] ≡ forms_of m o s
  no_form e = rw (eq-eqb _ 0 e) at unpacked_is

  pub two_forms : shape ≡ 4
      → form (opcodes / 2 ^ (8 * byte) % 256) 1 ∷ form (opcodes / 2 ^ (8 * byte) % 256 + 8) 2 ∷ [] ≡ forms_of m o s
  two_forms e = simp e at unpacked_is

  pub one_form : (shape ≡ 0 → ⊥) → (shape ≡ 4 → ⊥) → form (opcodes / 2 ^ (8 * byte) % 256) (shape - 1) ∷ [] ≡ forms_of m o s
  one_form n e = simp (ne_eqb _ 0 n, ne_eqb _ 4 e) at unpacked_is
