-- Rows of at most one form: the branches, and those of the mode Implied. Assumes nothing.
use mathlib.Core.Path.{◌≡◌, refl, ap, ◌∙◌}
use mathlib.Core.Bool.{Bool, true, false}
use mathlib.Core.List.{List, [], ◌∷◌}
use Prim.Native.Nat.{ℕ, ◌≤◌}
use native.Mathlib.Omega.{arith}
use lib.Dec.{eqb, leb}
use lib.ListN.{length}
use borrow.Author.Tests.{leb-true}
use Rattle.refusals.specs.Answer.{pick}
use Rattle.refusals.proofs.Never.{never}
use Rattle.opcodes.specs.declared.Form.{Form}
use Rattle.opcodes.specs.Manual.{forms_of, is_branch}
use Rattle.opcodes.specs.Census.{below, triple}
use Rattle.opcodes.specs.Encode.{in_range}
use Rattle.opcodes.proofs.Manual.{ranges, beyond}
use Rattle.opcodes.proofs.Table.{at_triple}
use Rattle.opcodes.proofs.Relative.{told, by_range}

-- ---- a branch, since its one form's opcode tells it

pub branch_single : (m o s : ℕ) → is_branch m o s ≡ true → length (forms_of m o s) ≤ 1
branch_single m o s e = go (forms_of m o s) (by_range m o s (in_range m o s) refl ∙ e)
  where
    go : (fs : List Form) → told fs ≡ true → length fs ≤ 1
    go [] h = omega arith
    go (f ∷ []) h = omega arith
    go (f ∷ g ∷ fs) h = never (cc)

-- ---- the mode Implied

abbrev pub is_single : ℕ → ℕ → ℕ → Bool
is_single m o s = pick (eqb o 0) (leb (length (forms_of m o s)) 1) true

-- one computed test
pub singles : below (triple is_single) 840 ≡ below (triple (λ m o s. true)) 840
unfolding forms_of
singles = refl

pub implied_single : (m s : ℕ) → length (forms_of m 0 s) ≤ 1
implied_single m s = go (in_range m 0 s) refl
  where
    go : (t : Bool) → t ≡ in_range m 0 s → length (forms_of m 0 s) ≤ 1
    go true e = leb-true _ _ (at_triple is_single (λ m o s. true) singles m 0 s (ranges m 0 s e refl))
    go false e = omega (arith, ap length (beyond m 0 s e refl))
