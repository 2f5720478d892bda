-- Laws of the manual: what is in range, what has no form, and that no form has more than two operand bytes.
-- Assumes nothing.
use mathlib.Core.Path.{◌≡◌, refl, sym, ap, ◌∙◌}
use mathlib.Core.Logic.{◌⊎◌, inl, inr, ⊎_elim}
use mathlib.Core.Bool.{Bool, true, false, ◌&&◌, and-false, and-eq-true_iff}
use mathlib.Core.List.{List, [], ◌∷◌}
use Prim.Native.Nat.{ℕ, ◌<◌, ◌≤◌}
use native.Mathlib.Omega.{arith}
use lib.Dec.{T, ltb, eqb, lit<}
use lib.ListN.{get_or, get_or-eq_default}
use borrow.Author.Tests.{ltb-true, ltb-false, ne_eqb}
use Rattle.refusals.specs.Each.{Each}
use Rattle.opcodes.specs.declared.Form.{Form}
use Rattle.opcodes.specs.Manual.{Mode, acc, imm, zp, zp_x, zp_y, abs, abs_x, abs_y, imp, rel, ind_x, ind_y, ind, Entry, ◌is◌, written, is_written, operand_bytes, keep, pages, forms_in, forms_of}
use Rattle.opcodes.specs.Encode.{in_range}

-- ---- a mode

in_limits : (k : Mode) → T (ltb (written k).mode 5) × T (ltb (written k).suffix 3) × T (ltb (operand_bytes k) 3)
in_limits acc = (tt, tt, tt)
in_limits imm = (tt, tt, tt)
in_limits zp = (tt, tt, tt)
in_limits zp_x = (tt, tt, tt)
in_limits zp_y = (tt, tt, tt)
in_limits abs = (tt, tt, tt)
in_limits abs_x = (tt, tt, tt)
in_limits abs_y = (tt, tt, tt)
in_limits imp = (tt, tt, tt)
in_limits rel = (tt, tt, tt)
in_limits ind_x = (tt, tt, tt)
in_limits ind_y = (tt, tt, tt)
in_limits ind = (tt, tt, tt)

mode_limit : (k : Mode) → (written k).mode < 5
mode_limit k = lit< (in_limits k).0

suffix_limit : (k : Mode) → (written k).suffix < 3
suffix_limit k = lit< (in_limits k).1

pub operand_limit : (k : Mode) → operand_bytes k < 3
operand_limit k = lit< (in_limits k).2

-- ---- the ranges

one_of_three : (a b c : Bool) → a && (b && c) ≡ false → (a ≡ false) ⊎ ((b ≡ false) ⊎ (c ≡ false))
one_of_three false b c e = inl refl
one_of_three true false c e = inr (inl refl)
one_of_three true true c e = inr (inr e)

pub ranges : (m o s : ℕ) {r : Bool} → r ≡ in_range m o s → r ≡ true → (m < 56) × (o < 5) × (s < 3)
unfolding in_range
ranges m o s {r} e n =
    let t = (and-eq-true_iff (ltb m 56) (ltb o 5 && ltb s 3)).0 (sym e ∙ n) in
    let u = (and-eq-true_iff (ltb o 5) (ltb s 3)).0 t.1 in
    (ltb-true m 56 t.0, ltb-true o 5 u.0, ltb-true s 3 u.1)

unwritten : (o s : ℕ) → ((k : Mode) → is_written k o s ≡ false) → (es : List Entry) → forms_in o s es ≡ []
unwritten o s h [] = refl
unwritten o s h ((k is op) ∷ es) = rw (h k) (unwritten o s h es)

no_page : (m o s : ℕ) → 56 ≤ m → forms_of m o s ≡ []
unfolding forms_of
no_page m o s h = ap (forms_in o s) (get_or-eq_default pages [] h)

no_mode : (m o s : ℕ) → 5 ≤ o → forms_of m o s ≡ []
unfolding forms_of
no_mode m o s h = unwritten o s (λ k. rw (ne_eqb (written k).mode o (λ e. omega (arith, mode_limit k)))) (get_or pages m [])

no_suffix : (m o s : ℕ) → 3 ≤ s → forms_of m o s ≡ []
unfolding forms_of
no_suffix m o s h =
    unwritten o s
    (λ k. rw (ne_eqb (written k).suffix s (λ e. omega (arith, suffix_limit k))) (and-false (eqb (written k).mode o)))
    (get_or pages m [])

pub beyond : (m o s : ℕ) {r : Bool} → r ≡ in_range m o s → r ≡ false → [] ≡ forms_of m o s
unfolding in_range
beyond m o s {r} e n =
    sym
    (⊎_elim (λ p. no_page m o s (ltb-false m 56 p))
    (⊎_elim (λ p. no_mode m o s (ltb-false o 5 p)) (λ p. no_suffix m o s (ltb-false s 3 p)))
    (one_of_three (ltb m 56) (ltb o 5) (ltb s 3) (sym e ∙ n)))

-- ---- at most two operand bytes

pub kept : {A : Type 0} (P : A → Type 0) (b : Bool) (x : A) (xs : List A) → P x → Each P xs → Each P (keep b x xs)
kept P true x xs p ps = (p, ps)
kept P false x xs p ps = ps

abbrev pub short_form : Form → Type 0
short_form f = f.operand < 3

forms_in_lem : (o s : ℕ) (es : List Entry) → Each short_form (forms_in o s es)
forms_in_lem o s [] = tt
forms_in_lem o s ((k is op) ∷ es) = kept short_form (is_written k o s) _ _ (operand_limit k) (forms_in_lem o s es)

pub short_forms : (m o s : ℕ) → Each short_form (forms_of m o s)
unfolding forms_of
short_forms m o s = forms_in_lem o s (get_or pages m [])
