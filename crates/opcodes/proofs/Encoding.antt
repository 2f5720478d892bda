-- Laws of encoding: the bytes of a form, by its operand bytes; the bytes of a row, by its forms; how many they are at most.
-- Assumes nothing.
use mathlib.Core.Path.{◌≡◌, refl, ap, ◌∙◌, subst}
use mathlib.Core.Bool.{Bool, true, false}
use mathlib.Core.List.{List, [], ◌∷◌}
use Prim.Native.Nat.{ℕ, zero, suc, ◌/◌, ◌%◌, ◌^◌, ◌<◌, ◌≤◌}
use native.Mathlib.Omega.{arith}
use native.Mathlib.Nat.{mod-lt, mod-eq_of_lt}
use lib.IntN.{ℤ, pos, negsuc}
use lib.ListN.{length}
use Rattle.refusals.specs.Answer.{Answer, Done, Refused, mapped, pick}
use Rattle.refusals.specs.Table.{argument}
use Rattle.int64.specs.Num.{mod_z}
use Rattle.opcodes.specs.declared.Form.{Form}
use Rattle.opcodes.specs.declared.Forms.{Forms}
use Rattle.opcodes.specs.declared.Code.{Code}
use Rattle.opcodes.specs.Encode.{length_of, low_first, bytes_of, takes, tried, encode_forms, in_range, encode_of, code}
use Rattle.opcodes.specs.Manual.{forms_of}
use Rattle.opcodes.specs.Says.{listed}
use Rattle.refusals.specs.Each.{Each}
use Rattle.refusals.proofs.Never.{never}
use Rattle.opcodes.proofs.Manual.{short_form, short_forms}

-- ---- the operand's bytes

pub mod_z_below : (m : ℕ) → 0 < m → (z : ℤ) → mod_z m z < m
mod_z_below m h (pos n) = mod-lt n h
mod_z_below m h (negsuc n) = omega arith

pub length_low_first : (n x : ℕ) → length (low_first n x) ≡ n
length_low_first zero x = refl
length_low_first (suc n) x = ap suc (length_low_first n (x / 256))

-- "An instruction is as long as its form"
pub length_bytes_of : (f : Form) (z : ℤ) → length (bytes_of f z) ≡ length_of f
unfolding bytes_of
length_bytes_of f z = omega (arith, length_low_first f.operand (mod_z (256 ^ f.operand) z))

-- ---- a form's bytes, as the code hands them over

module _ (f : Form) (y z : ℤ) (e : y ≡ z) where
  pub code_none : f.operand ≡ 0 → record { len = 1; b0 = f.opcode; b1 = 0; b2 = 0 } ≡ code (bytes_of f z)
  unfolding bytes_of
  code_none n = rw n

  pub code_one : {b : ℕ} → f.operand ≡ 1 → b ≡ mod_z 256 y
      → record { len = 2; b0 = f.opcode; b1 = b; b2 = 0 } ≡ code (bytes_of f z)
  unfolding bytes_of
  code_one n h = rw (n, mod-eq_of_lt (mod_z_below 256 (omega arith) z), h, e)

  pub code_two : {w : ℕ} → (f.operand ≡ 0 → ⊥) → (f.operand ≡ 1 → ⊥) → f.operand < 3 → w ≡ mod_z 65536 y
      → record { len = 3; b0 = f.opcode; b1 = w % 256; b2 = w / 256 } ≡ code (bytes_of f z)
  unfolding bytes_of
  code_two {w} m n l h =
      let two : f.operand ≡ 2 = omega arith in
      let v : w ≡ mod_z 65536 z = h ∙ ap (mod_z 65536) e in
      let top : w / 256 % 256 ≡ w / 256 = omega (arith, mod_z_below 65536 (omega arith) z) in
      rw (two, ← v, top)

-- ---- a row's bytes, as the code hands them over

module _ (f : Form) (fs : List Form) (y z : ℤ) (e : y ≡ z) where
  pub tried_first : {t : Bool} {c : Code} → t ≡ takes f y → t ≡ true → c ≡ code (bytes_of f y)
      → Done c ≡ mapped code (tried (f ∷ fs) z)
  tried_first h p q = rw (← e, ← h, p, q)

  pub tried_rest : {t : Bool} {a : Answer Code} → t ≡ takes f y → t ≡ false → a ≡ mapped code (tried fs y)
      → a ≡ mapped code (tried (f ∷ fs) z)
  tried_rest h p q = rw (← e, ← h, p, q)

module _ (m o s : ℕ) {r : Bool} (e : r ≡ in_range m o s) where
  pub out_of_range : (z : ℤ) → r ≡ false → Refused argument ≡ mapped code (encode_of m o s z)
  unfolding encode_of
  out_of_range z n = rw (← e, n)

  -- the row's forms are v
  module _ {x : Forms} (v : Forms) (n : r ≡ true) (h : listed x ≡ forms_of m o s) (p : x ≡ v) where
    pub of_forms : (y z : ℤ) {a : Answer Code} → y ≡ z → a ≡ mapped code (encode_forms (listed v) y)
        → a ≡ mapped code (encode_of m o s z)
    unfolding encode_of
    of_forms y z i q = rw (← e, n, ← h, p, ← i) q

    pub short : Each short_form (listed v)
    short = rw (← p, h) (short_forms m o s)

-- ---- how long an encoding is

short_pick : (t : Bool) (bs cs : List ℕ) (x : Answer (List ℕ)) → length cs ≤ 3 → (x ≡ Done bs → length bs ≤ 3)
    → pick t (Done cs) x ≡ Done bs → length bs ≤ 3
short_pick true bs cs x h k e = let p : cs ≡ bs = cc in subst (λ (l : List ℕ). length l ≤ 3) p h
short_pick false bs cs x h k e = k e

short_tried : (fs : List Form) → Each short_form fs → (z : ℤ) (bs : List ℕ) → tried fs z ≡ Done bs → length bs ≤ 3
short_tried [] a z bs e = never (cc)
short_tried (f ∷ fs) a z bs e =
    short_pick (takes f z) bs (bytes_of f z) (tried fs z) (omega (arith, length_bytes_of f z, a.0)) (short_tried fs a.1 z bs) e

short_encoded : (fs : List Form) → Each short_form fs → (z : ℤ) (bs : List ℕ) → encode_forms fs z ≡ Done bs → length bs ≤ 3
short_encoded [] a z bs e = never (cc)
short_encoded (f ∷ fs) a z bs e = short_tried (f ∷ fs) a z bs e

-- an instruction has at most three bytes
pub encode_short : (m o s : ℕ) (z : ℤ) (bs : List ℕ) → encode_of m o s z ≡ Done bs → length bs ≤ 3
unfolding encode_of
encode_short m o s z bs e = go (in_range m o s) e
  where
    go : (t : Bool) → pick t (encode_forms (forms_of m o s) z) (Refused argument) ≡ Done bs → length bs ≤ 3
    go true h = short_encoded (forms_of m o s) (short_forms m o s) z bs h
    go false h = never (cc)
