-- A list written over memory, one element after the other; and over memory that holds one thing everywhere. Assumes nothing.
use mathlib.Core.List.{List, [], ◌∷◌, ◌++◌}
use mathlib.Core.Path.{◌≡◌, refl, ap, ◌∙◌}
use Prim.Native.Nat.{ℕ, zero, suc, ◌-◌}
use native.Mathlib.Omega.{arith}
use lib.ListN.{length, set, take, replicate}
use Rattle.walk.specs.Numbers.{filled}
use Rattle.number_list.specs.Calls.{onto}

module _ {A : Type 0} where
  pub onto_none : (m : List A) → m ≡ onto m []
  onto_none [] = refl
  onto_none (b ∷ m) = refl

  -- one element more; past the end nothing is written
  pub onto_more : (m l : List A) (a : A) → set (onto m l) (length l) a ≡ onto m (l ++ a ∷ [])
  onto_more [] l a = refl
  onto_more (b ∷ m) [] a = ap (λ (x : List A). a ∷ x) (onto_none m)
  onto_more (b ∷ m) (x ∷ l) a = ap (λ (y : List A). x ∷ y) (onto_more m l a)

  -- the memory is as long as it was
  pub onto_length : (m l : List A) → length (onto m l) ≡ length m
  onto_length [] l = refl
  onto_length (b ∷ m) [] = refl
  onto_length (b ∷ m) (x ∷ l) = ap suc (onto_length m l)

  -- what is there already may be written
  pub onto_same : (n : ℕ) (a : A) (l : List A) → onto (replicate n a) l ≡ onto (replicate n a) (l ++ a ∷ [])
  onto_same zero a l = refl
  onto_same (suc n) a [] = ap (λ (x : List A). a ∷ x) (onto_none (replicate n a))
  onto_same (suc n) a (x ∷ l) = ap (λ (y : List A). x ∷ y) (onto_same n a l)

-- over the same everywhere: as much as there is room for, padded
pub onto_filled : {A : Type 0} (b : A) (n : ℕ) (l : List A) → onto (replicate n b) l ≡ filled n b (take n l)
onto_filled b zero l = refl
onto_filled b (suc n) [] = let all : suc n ≡ suc n - 0 = omega arith in ap (λ (k : ℕ). replicate k b) all
onto_filled {A} b (suc n) (a ∷ l) =
    let k = length (take n l) in
    let less : n - k ≡ suc n - suc k = omega arith in
    ap (λ (x : List A). a ∷ x) (onto_filled b n l ∙ ap (λ (j : ℕ). take n l ++ replicate j b) less)
