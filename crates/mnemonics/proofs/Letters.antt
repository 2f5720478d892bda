-- The letters of a mnemonic stand in a table, by its number; any other number has dashes. Assumes nothing.
use Prim.Native.String.{String}
use mathlib.Core.Bool.{Bool, true, ◌&&◌, and-eq-true_iff}
use mathlib.Core.List.{List, [], ◌∷◌, map}
use mathlib.Core.Path.{◌≡◌, refl}
use Prim.Native.Nat.{ℕ, zero, suc, ◌≤◌, ◌<◌}
use native.Mathlib.Omega.{arith}
use lib.Dec.{eqb}
use lib.ListN.{length, get_or, get_or-eq_default}
use borrow.Author.Tests.{eqb-true}
use Rattle.mnemonics.specs.Ascii.{ascii}
use Rattle.mnemonics.specs.Mnemonics.{names, dashes, name_of}

-- the letters of each mnemonic
abbrev pub table : List (List ℕ)
table = map ascii names

get_or_mapped : {A B : Type 0} (f : A → B) (xs : List A) (k : ℕ) (d : A) (e : B) → k < length xs → get_or (map f xs) k e ≡ f (get_or xs k d)
get_or_mapped f [] k d e h = absurd (omega arith)
get_or_mapped f (x ∷ xs) zero d e h = refl
get_or_mapped f (x ∷ xs) (suc k) d e h = get_or_mapped f xs k d e (omega arith)

-- in the table
pub letters_known : (m : ℕ) → m < 56 → get_or table m [] ≡ ascii (name_of m)
unfolding name_of
letters_known m h = get_or_mapped ascii names m dashes [] h

-- behind the table
pub no_name : (m : ℕ) → 56 ≤ m → name_of m ≡ dashes
unfolding name_of
no_name m h = get_or-eq_default names dashes h

-- ---- how many letters

-- each has three
threes : List String → Bool
threes [] = true
threes (x ∷ xs) = eqb (length (ascii x)) 3 && threes xs

three_of : (xs : List String) → threes xs ≡ true → (m : ℕ) → length (ascii (get_or xs m dashes)) ≡ 3
unfolding threes
three_of [] e m = refl
three_of (x ∷ xs) e zero = eqb-true (length (ascii x)) 3 ((and-eq-true_iff (eqb (length (ascii x)) 3) (threes xs)).0 e).0
three_of (x ∷ xs) e (suc m) = three_of xs ((and-eq-true_iff (eqb (length (ascii x)) 3) (threes xs)).0 e).1 m

pub three_letters : (m : ℕ) → length (ascii (name_of m)) ≡ 3
unfolding name_of threes
three_letters m = three_of names refl m
