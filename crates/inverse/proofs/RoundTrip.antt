-- Document 01's "Decoding an encoding gives back its row and the operand's low bytes", with any bytes behind it.
-- Assumes nothing.
use mathlib.Core.Path.{◌≡◌, refl, sym, ap, ◌∙◌, subst}
use mathlib.Core.Bool.{Bool, true, false}
use mathlib.Core.List.{List, [], ◌∷◌, ◌++◌}
use Prim.Native.Nat.{ℕ, zero, suc, ◌-◌, ◌*◌, ◌/◌, ◌^◌, ◌<◌}
use native.Mathlib.Omega.{arith}
use native.Mathlib.Nat.{pow-suc, div-lt_iff_lt-mul}
use lib.IntN.{ℤ}
use lib.ListN.{length, length-append}
use lib.Seq.{take_at}
use borrow.Author.Tests.{le-leb}
use Rattle.refusals.specs.Answer.{Answer, Done, Refused, pick}
use Rattle.refusals.specs.Table.{argument}
use Rattle.int64.specs.Num.{mod_z}
use Rattle.little.specs.Little.{number}
use Rattle.refusals.proofs.Never.{never}
use Rattle.refusals.specs.Each.{Each}
use Rattle.opcodes.specs.declared.Form.{Form}
use Rattle.opcodes.specs.Manual.{forms_of}
use Rattle.opcodes.specs.Encode.{low_first, bytes_of, takes, tried, encode_forms, in_range, encode_of}
use Rattle.opcodes.proofs.Manual.{ranges}
use Rattle.opcodes.proofs.Encoding.{mod_z_below, length_low_first}
use Rattle.inverse.specs.Inverse.{row, rows_of}
use Rattle.inverse.specs.declared.Instruction.{Instruction}
use Rattle.inverse.specs.Decode.{decode_row, decode_of}
use Rattle.inverse.proofs.Inverse.{found_again}

-- ---- the operand

256-pow-pos : (n : ℕ) → 0 < 256 ^ n
256-pow-pos zero = omega arith
256-pow-pos (suc n) = omega (arith, pow-suc 256 n, 256-pow-pos n)

-- n bytes, low first, make the number again
number_low_first : (n x : ℕ) → x < 256 ^ n → number (low_first n x) ≡ x
number_low_first zero x h = omega arith
number_low_first (suc n) x h =
    let l : x < 256 ^ n * 256 = rw (← pow-suc 256 n) h in
    let some : 0 < 256 = omega arith in
    let q : x / 256 < 256 ^ n = (div-lt_iff_lt-mul some).1 l in
    omega (arith, number_low_first n (x / 256) q)

-- ---- the instruction

-- n operand bytes of z at a row
abbrev instruction : ℕ → ℕ → ℕ → ℤ → ℕ → Instruction
instruction m o s z n = record { row = row m o s n; operand = mod_z (256 ^ n) z }

-- what is said of the bytes of an encoding
abbrev Back : ℕ → ℕ → ℕ → ℤ → List ℕ → Type 0
Back m o s z bs = (rest : List ℕ) → decode_of (bs ++ rest) ≡ Done (instruction m o s z (length bs - 1))

module _ (m o s : ℕ) (z : ℤ) where
  operand_read : (n : ℕ) (bs rest : List ℕ) → length bs ≡ n → number bs ≡ mod_z (256 ^ n) z
      → decode_row (row m o s n ∷ []) (bs ++ rest) ≡ Done (instruction m o s z n)
  operand_read n bs rest l e =
      rw (le-leb n (length (bs ++ rest)) (omega (arith, length-append bs rest)), take_at bs rest n l, e)

  of_form : (f : Form) → rows_of f.opcode ≡ row m o s f.operand ∷ [] → Back m o s z (bytes_of f z)
  unfolding decode_of bytes_of
  of_form f e rest =
      let n : ℕ = f.operand in
      let x : ℕ = mod_z (256 ^ n) z in
      let l : length (low_first n x) ≡ n = length_low_first n x in
      let k : n ≡ suc (length (low_first n x)) - 1 = omega arith in
      rw e
      (operand_read n (low_first n x) rest l (number_low_first n x (mod_z_below (256 ^ n) (256-pow-pos n) z)) ∙
      ap (λ (j : ℕ). Done (instruction m o s z j)) k)

  of_pick : (t : Bool) (bs cs : List ℕ) (x : Answer (List ℕ)) → Back m o s z cs → (x ≡ Done bs → Back m o s z bs)
      → pick t (Done cs) x ≡ Done bs → Back m o s z bs
  of_pick true bs cs x h k e = let p : cs ≡ bs = cc in subst (Back m o s z) p h
  of_pick false bs cs x h k e = k e

  of_tried : (fs : List Form) → Each (λ (f : Form). rows_of f.opcode ≡ row m o s f.operand ∷ []) fs
      → (bs : List ℕ) → tried fs z ≡ Done bs → Back m o s z bs
  of_tried [] a bs e = never (cc)
  of_tried (f ∷ fs) a bs e =
      of_pick (takes f z) bs (bytes_of f z) (tried fs z) (of_form f a.0) (of_tried fs a.1 bs) e

  of_forms : (fs : List Form) (bs : List ℕ) → encode_forms fs z ≡ Done bs → tried fs z ≡ Done bs
  of_forms [] bs e = never (cc)
  of_forms (f ∷ fs) bs e = e

  in_range_lem : (t : Bool) (bs : List ℕ) (x : Answer (List ℕ)) → pick t x (Refused argument) ≡ Done bs
      → (t ≡ true) × (x ≡ Done bs)
  in_range_lem true bs x e = (refl, e)
  in_range_lem false bs x e = never (cc)

  pub round_trip : (bs rest : List ℕ) → encode_of m o s z ≡ Done bs
      → decode_of (bs ++ rest) ≡ Done (record { row = row m o s (length bs - 1); operand = mod_z (256 ^ (length bs - 1)) z })
  unfolding encode_of
  round_trip bs rest e =
      let p = in_range_lem (in_range m o s) bs (encode_forms (forms_of m o s) z) e in
      of_tried (forms_of m o s) (found_again m o s (ranges m o s (sym p.0) refl).0) bs (of_forms (forms_of m o s) bs p.1) rest
