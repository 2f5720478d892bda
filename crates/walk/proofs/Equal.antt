-- The tests of equality test it. Assumes nothing.
use Rattle.std.specs.Prelude.{Option, None, Some}
use mathlib.Core.Bool.{Bool, true, false, ◌&&◌}
use mathlib.Core.List.{List, [], ◌∷◌}
use mathlib.Core.Path.{◌≡◌, refl, sym, ap}
use lib.IntN.{ℤ, pos, negsuc}
use borrow.Author.Tests.{eqb-true}
use Rattle.refusals.proofs.Never.{never}
use Rattle.int64.specs.Num.{eq_z}
use Rattle.int64.proofs.Laws.{eq_z_yes}
use Rattle.walk.specs.Values.{eq_value, same}

eq_z_true : (a b : ℤ) → eq_z a b ≡ true → a ≡ b
eq_z_true (pos a) (pos b) e = ap pos (eqb-true a b e)
eq_z_true (pos a) (negsuc b) e = never (cc)
eq_z_true (negsuc a) (pos b) e = never (cc)
eq_z_true (negsuc a) (negsuc b) e = ap negsuc (eqb-true a b e)

pub eq_value_true : (a b : Option ℤ) → eq_value a b ≡ true → a ≡ b
eq_value_true None None e = refl
eq_value_true None (Some b) e = never (cc)
eq_value_true (Some a) None e = never (cc)
eq_value_true (Some a) (Some b) e = ap Some (eq_z_true a b e)

pub eq_value_same : (a : Option ℤ) → eq_value a a ≡ true
eq_value_same None = refl
eq_value_same (Some a) = sym (eq_z_yes {a = a} {b = a} refl)

both_true : (a b : Bool) → (a && b) ≡ true → (a ≡ true) × (b ≡ true)
both_true true b e = (refl, e)
both_true false b e = never (cc)

module _ {A : Type 0} (eq : A → A → Bool) where
  pub same_true : ((a b : A) → eq a b ≡ true → a ≡ b) → (l m : List A) → same eq l m ≡ true → l ≡ m
  same_true h [] [] e = refl
  same_true h [] (b ∷ m) e = never (cc)
  same_true h (a ∷ l) [] e = never (cc)
  same_true h (a ∷ l) (b ∷ m) e =
      let p = both_true (eq a b) (same eq l m) e in
      let x : a ≡ b = h a b p.0 in
      let y : l ≡ m = same_true h l m p.1 in
      cc

  pub same_same : ((a : A) → eq a a ≡ true) → (l : List A) → same eq l l ≡ true
  same_same h [] = refl
  same_same h (a ∷ l) = rw (h a, same_same h l)
