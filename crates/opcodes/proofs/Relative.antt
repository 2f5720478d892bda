-- Which rows are branches: one computed test that the opcode of a row's one form tells it, and that what has no form is none.
-- Assumes nothing.
use mathlib.Core.Path.{◌≡◌, refl, sym, ap, ◌∙◌}
use mathlib.Core.Bool.{Bool, true, false, ◌&&◌, ◌||◌, and-false}
use mathlib.Core.List.{List, [], ◌∷◌}
use Prim.Native.Nat.{ℕ, ◌%◌}
use lib.Dec.{eqb}
use lib.ListN.{get_or}
use Rattle.refusals.proofs.Never.{never}
use Rattle.opcodes.specs.declared.Form.{Form}
use Rattle.opcodes.specs.declared.Forms.{Forms}
use Rattle.opcodes.specs.Manual.{Entry, ◌is◌, is_written, is_relative, operand_bytes, form, keep, pages, forms_in, forms_of, branch_in, is_branch}
use Rattle.opcodes.specs.Census.{below, triple}
use Rattle.opcodes.specs.Encode.{in_range}
use Rattle.opcodes.specs.Says.{listed}
use Rattle.opcodes.proofs.Manual.{ranges, beyond}
use Rattle.opcodes.proofs.Table.{at_triple}

-- ---- in range

-- what a row's forms say: one form, whose opcode ends in the bits 10000
abbrev pub told : List Form → Bool
told [] = false
told (f ∷ []) = eqb (f.opcode % 32) 16
told (f ∷ g ∷ fs) = false

abbrev pub told_of : ℕ → ℕ → ℕ → Bool
told_of m o s = told (forms_of m o s)

-- it is said of each branch, and of no other row
pub tells : below (triple told_of) 840 ≡ below (triple is_branch) 840
unfolding forms_of is_branch
tells = refl

-- ---- out of range

no_branch : (o s : ℕ) (es : List Entry) → forms_in o s es ≡ [] → branch_in o s es ≡ false
no_branch o s [] e = refl
no_branch o s ((k is op) ∷ es) e = go (is_written k o s) refl (no_branch o s es) e
  where
    go : (t : Bool) → is_written k o s ≡ t → (forms_in o s es ≡ [] → branch_in o s es ≡ false)
        → keep t (form op (operand_bytes k)) (forms_in o s es) ≡ [] → (is_relative k && is_written k o s) || branch_in o s es ≡ false
    go true w h e = never (cc)
    go false w h e = rw (w, and-false (is_relative k)) (h e)

none : (m o s : ℕ) → [] ≡ forms_of m o s → told_of m o s ≡ is_branch m o s
unfolding forms_of is_branch
none m o s e = ap told (sym e) ∙ sym (no_branch o s (get_or pages m []) (sym e))

-- ---- any row

pub by_range : (m o s : ℕ) (t : Bool) → t ≡ in_range m o s → told_of m o s ≡ is_branch m o s
by_range m o s true e = at_triple told_of is_branch tells m o s (ranges m o s e refl)
by_range m o s false e = none m o s (beyond m o s e refl)

-- the row's forms are v
pub by_forms : (m o s : ℕ) {x : Forms} (v : Forms) → listed x ≡ forms_of m o s → x ≡ v → told (listed v) ≡ is_branch m o s
by_forms m o s v h p = rw (← p, h) (by_range m o s (in_range m o s) refl)
