-- What an expression comes to, and where a set place leads. Assumes nothing.
use Rattle.std.specs.Prelude.{Option}
use mathlib.Core.Bool.{Bool, true, false}
use mathlib.Core.List.{List}
use mathlib.Core.Path.{◌≡◌, refl, ap, ◌∙◌}
use Prim.Native.Nat.{ℕ, zero, suc}
use native.Mathlib.Omega.{arith}
use lib.IntN.{ℤ, pos, negsuc}
use lib.ListN.{get_or}
use lib.Signed.{lt_z}
use borrow.Author.Tests.{ltb-true, ltb-false, le-leb, lt-leb}
use Rattle.refusals.proofs.Never.{never}
use Rattle.refusals.proofs.Pick.{at_true, at_false, granted, denied}
use Rattle.form.specs.Form.{max_depth}
use Rattle.form.specs.Statements.{is_followed, what_of}
use Rattle.evaluator.specs.Expression.{Unresolved, Meaning, expression}
use Rattle.evaluator.specs.Evaluate.{by_node, from_nodes, expression_at}
use Rattle.walk.specs.Walk.{is_place}
use Rattle.walk.specs.Numbers.{numbers_in, reached, reads_noted, value_of}

-- ---- expressions

module _ (tape nodes : List ℕ) (numbers : List (Option ℤ)) (place : ℤ) (r : List ℕ) (at : ℕ)
    {f : Bool} (f-is : f ≡ is_followed (what_of r)) where
  -- without an expression
  pub value_none : f ≡ false → Unresolved at ≡ value_of tape nodes (numbers_in numbers) place r at
  unfolding value_of
  value_none e = at_false _ _ (denied f-is e)

  -- the number that a note leads to
  noted : (v : ℕ) → by_node numbers v ≡ reached (numbers_in numbers) v
  unfolding numbers_in
  noted zero = refl
  noted (suc n) = refl

  noted_all : from_nodes nodes numbers ≡ (λ i. reached (numbers_in numbers) (get_or nodes i 0))
  unfolding from_nodes
  noted_all i n = noted (get_or nodes n 0) i

  pub value_read : f ≡ true → {m : Meaning} → m ≡ expression_at tape nodes numbers place at
      → m.1 ≡ value_of tape nodes (numbers_in numbers) place r at
  unfolding value_of reads_noted expression_at
  value_read e h =
      ap (λ (m : Meaning). m.1) h
      ∙ ap (λ (ns : ℕ → Option ℤ). (expression tape ns place max_depth at).1) noted_all
      ∙ at_true _ _ (granted f-is e)

-- ---- where a set place leads

pub below : (z : ℤ) → lt_z z (pos 0) ≡ true → is_place z ≡ false
below (pos n) e = absurd (omega (arith, ltb-true n 0 e))
below (negsuc n) e = refl

pub beyond : (z : ℤ) → lt_z (pos 65536) z ≡ true → is_place z ≡ false
beyond (pos n) e = rw (le-leb 0 n (omega arith), lt-leb n 65536 (ltb-true 65536 n e))
beyond (negsuc n) e = refl

pub within : (z : ℤ) → lt_z z (pos 0) ≡ false → lt_z (pos 65536) z ≡ false → is_place z ≡ true
within (pos n) a b = rw (le-leb 0 n (omega arith), le-leb n 65536 (ltb-false 65536 n b))
within (negsuc n) a b = never (cc)
