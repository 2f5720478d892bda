-- The array of a pass: what it holds of each node, one name more, and that it tells the values apart. Assumes nothing.
use Rattle.std.specs.Prelude.{Option, None, Some}
use Rattle.std.specs.Bool.{Decides}
use Rattle.std.specs.Cmp.Lexicographic.{pointwise}
use Rattle.std.specs.Ordering.{int_eq}
use Rattle.std.specs.Option.{option_eq}
use Rattle.std.proofs.lemmas.Slice.Eq.{slice_eq-Decides}
use Rattle.std.proofs.lemmas.Bool.Decides.{Decides-int_eq, Decides-like}
use mathlib.Core.Bool.{Bool}
use mathlib.Core.List.{List, [], ◌∷◌, ◌++◌}
use mathlib.Core.Path.{◌≡◌, refl, sym, ap, ◌∙◌}
use Prim.Native.Nat.{ℕ, zero, suc, ◌+◌, ◌-◌, ◌≤◌, ◌<◌}
use native.Mathlib.Decide.{dec_lt}
use native.Mathlib.Omega.{arith}
use lib.IntN.{ℤ}
use lib.ListN.{length, get_or, set, replicate, length-append, length-replicate, get_or-eq_default}
use lib.Seq.{set-append_seam, append_snoc, ext_get_or}
use borrow.Author.Tests.{lt-ltb, le-ltb}
use Rattle.refusals.proofs.Never.{never}
use Rattle.edges.specs.Edges.{max_nodes}
use Rattle.walk.specs.Values.{Values, numbered}
use Rattle.walk.specs.Numbers.{numbers_in, filled, numbers_by}

-- ---- a list that is filled up

pub fill_next : {A : Type 0} (n : ℕ) (a x : A) (l : List A) → length l < n → set (filled n a l) (length l) x ≡ filled n a (l ++ x ∷ [])
fill_next {A} n a x l h =
    let rest = n - length (l ++ x ∷ []) in
    let e : n - length l ≡ suc rest = omega (arith, length-append l (x ∷ [])) in
    ap (λ (m : ℕ). set (l ++ replicate m a) (length l) x) e
    ∙ set-append_seam l a (replicate rest a) x
    ∙ sym (append_snoc l x (replicate rest a))

fill_length : {A : Type 0} (n : ℕ) (a : A) (l : List A) → length l ≤ n → length (filled n a l) ≡ n
fill_length n a l h = length-append l (replicate (n - length l) a) ∙ omega (arith, length-replicate (n - length l) a)

-- ---- one name more, and how long the array is

pub column_more : (L : Values) (v : Option ℤ) → length L + 1 < max_nodes → set (numbers_by L) (length L + 1) v ≡ numbers_by (L ++ v ∷ [])
unfolding numbers_by
column_more L v h =
    let e : length L + 1 ≡ suc (length L) = omega arith in
    ap (λ (i : ℕ). set (filled max_nodes None (None ∷ L)) i v) e
    ∙ fill_next max_nodes None v (None ∷ L) (omega arith)

pub numbers_length : (L : Values) → length L < max_nodes → length (numbers_by L) ≡ max_nodes
unfolding numbers_by
numbers_length L h = fill_length max_nodes None (None ∷ L) (omega arith)

-- ---- what it holds of a node

none_there : (m k : ℕ) → get_or (replicate {A = Option ℤ} m None) k None ≡ None
none_there zero k = refl
none_there (suc m) zero = refl
none_there (suc m) (suc k) = none_there m k

rest_read : (L : Values) (m k : ℕ) → get_or (L ++ replicate m None) k None ≡ get_or L k None
rest_read [] m k = none_there m k
rest_read (v ∷ L) m zero = refl
rest_read (v ∷ L) m (suc k) = rest_read L m k

all_read : (L : Values) (n : ℕ) → get_or (numbers_by L) n None ≡ numbered L n
unfolding numbers_by
all_read L zero = refl
all_read L (suc k) = rest_read L (max_nodes - suc (length L)) k

beyond : (L : Values) (n : ℕ) → length L < n → None ≡ numbered L n
beyond L zero h = refl
beyond L (suc k) h = sym (get_or-eq_default L None (omega arith))

node : (L : Values) → length L < max_nodes → (n : ℕ) → numbers_in (numbers_by L) n ≡ numbered L n
unfolding numbers_in
node L h n =
    elim (dec_lt n max_nodes) [
      | yes p ↦ rw (lt-ltb n max_nodes p) (all_read L n)
      | no p ↦ rw (le-ltb n max_nodes (omega arith)) (beyond L n (omega arith))
    ]

pub by_node_lem : (L : Values) → length L < max_nodes → numbers_in (numbers_by L) ≡ numbered L
by_node_lem L h i n = node L h n i

-- as many values, and the same array: the same values
pub apart : (L K : Values) → length L < max_nodes → length L ≡ length K → numbers_by L ≡ numbers_by K → L ≡ K
apart L K h e p =
    ext_get_or None L K e (λ i b. sym (node L h (suc i)) ∙ ap (λ (m : List (Option ℤ)). numbers_in m (suc i)) p ∙ node K (omega arith) (suc i))

-- ---- where every name is unresolved

no_number : (d n : ℕ) → numbered [] n ≡ numbered (replicate d None) n
no_number d zero = refl
no_number d (suc k) = sym (none_there d k)

pub no_names : (d : ℕ) → d < max_nodes → numbers_by [] ≡ numbers_by (replicate d None)
no_names d h =
    let all = replicate d None in
    ext_get_or None (numbers_by []) (numbers_by all)
    (numbers_length [] (omega arith) ∙ sym (numbers_length all (omega (arith, length-replicate {A = Option ℤ} d None))))
    (λ i b. all_read [] i ∙ no_number d i ∙ sym (all_read all i))

-- ---- a test of equality

value_told : (a b : Option ℤ) → Decides (option_eq int_eq a b) (a ≡ b)
value_told None None = (λ e. refl, λ e. refl)
value_told None (Some b) = (λ e. never (cc), λ e. never (cc))
value_told (Some a) None = (λ e. never (cc), λ e. never (cc))
value_told (Some a) (Some b) = Decides-like _ (λ p. ap Some p) (λ p. cc) (Decides-int_eq a b)

-- `==` tells whether two arrays are the same
pub numbers_told : (m n : List (Option ℤ)) {r : Bool} → r ≡ pointwise (option_eq int_eq) m n → Decides r (m ≡ n)
numbers_told m n {r} e = slice_eq-Decides value_told m n r e
