-- Laws of the look-ups: scans from the last edge to the first, and paths id by id. Assumes nothing.
use Rattle.std.specs.Prelude.{Option, None, Some}
use mathlib.Core.Bool.{Bool, true, false, ◌||◌}
use mathlib.Core.Path.{◌≡◌, refl, sym, ap, ◌∙◌}
use mathlib.Core.List.{List, [], ◌∷◌}
use Prim.Native.Nat.{ℕ, suc, ◌+◌, ◌-◌, ◌<◌, ◌≤◌, min}
use native.Mathlib.Omega.{arith}
use native.Mathlib.Numerals.{add-one}
use lib.Dec.{eqb}
use lib.ListN.{length, get_or, set, drop, length-drop}
use lib.Seq.{drop-cons, drop-length, sets-eq}
use borrow.Author.Tests.{eq-eqb, ne_eqb}
use Rattle.std.specs.List.{list_any}
use Rattle.refusals.specs.Memory.{over}
use Rattle.edges.specs.declared.Edge.{Edge}
use Rattle.edges.specs.Edges.{max_edges, last_edge, child_of, parent_of, step_of, walk_of, has, deepest, there_of, elsewhere, taken, found, edge_at, edges_in, held}

-- ---- how many there are

-- a table that counts no more edges than it has room for holds them all
pub all_held : (links : List ℕ) (k : ℕ) → k ≤ max_edges → held links k ≡ edges_in links k
all_held links k h = let e : min k max_edges ≡ k = omega arith in ap (edges_in links) e

-- an edge that there is room for is no other
pub edge_here : (links : List ℕ) (i : ℕ) {e : Edge} → i < max_edges → e ≡ edge_at links (min i last_edge) → e ≡ edge_at links i
edge_here links i h is = let same : min i last_edge ≡ i = omega arith in is ∙ ap (edge_at links) same

-- ---- a scan from the last edge to the first: of i edges the last is number i - 1

module _ (links : List ℕ) (i : ℕ) (h : 0 < i) {e : Edge} (is : e ≡ edge_at links (i - 1)) where
  edges_down : edges_in links i ≡ e ∷ edges_in links (i - 1)
  unfolding edges_in
  edges_down = let j : i ≡ suc (i - 1) = omega arith in ap (edges_in links) j ∙ ap (λ (d : Edge). d ∷ edges_in links (i - 1)) (sym is)

  pub child_here : {s x : ℕ} → e.from ≡ s → e.id ≡ x → child_of (edges_in links i) s x ≡ Some e.to
  unfolding child_of
  child_here p q = rw edges_down (rw (eq-eqb _ _ p, eq-eqb _ _ q))

  pub child_other : (s x : ℕ) → (e.from ≡ s → ⊥) → child_of (edges_in links i) s x ≡ child_of (edges_in links (i - 1)) s x
  unfolding child_of
  child_other s x p = rw edges_down (rw (ne_eqb _ _ p))

  pub child_unnamed : {s x : ℕ} → e.from ≡ s → (e.id ≡ x → ⊥)
      → child_of (edges_in links i) s x ≡ child_of (edges_in links (i - 1)) s x
  unfolding child_of
  child_unnamed p q = rw edges_down (rw (eq-eqb _ _ p, ne_eqb _ _ q))

  pub parent_here : {s : ℕ} → e.to ≡ s → parent_of (edges_in links i) s ≡ Some e.from
  unfolding parent_of
  parent_here p = rw edges_down (rw (eq-eqb _ _ p))

  pub parent_other : {s : ℕ} → (e.to ≡ s → ⊥) → parent_of (edges_in links i) s ≡ parent_of (edges_in links (i - 1)) s
  unfolding parent_of
  parent_other p = rw edges_down (rw (ne_eqb _ _ p))

  module _ (s x n : ℕ) where
    pub taken_here : elsewhere s x n e ≡ true → taken (edges_in links i) s x n ≡ true
    unfolding taken
    taken_here t = rw edges_down (rw t)

    pub taken_other : elsewhere s x n e ≡ false → taken (edges_in links i) s x n ≡ taken (edges_in links (i - 1)) s x n
    unfolding taken
    taken_other t = rw edges_down (rw t)

-- ---- one turn of a loop over a path: the id at i

module _ (path : List ℕ) (i : ℕ) (h : i < length path) where
  module _ (es : List Edge) (s : ℕ) where
    pub walk_on : {n : ℕ} → step_of es s (get_or path i 0) ≡ Some n → walk_of es (drop i path) s ≡ walk_of es (drop (i + 1) path) n
    unfolding walk_of
    walk_on e = rw (add-one, drop-cons path i 0 h, e)

    pub walk_stuck : step_of es s (get_or path i 0) ≡ None → walk_of es (drop i path) s ≡ None
    unfolding walk_of
    walk_stuck e = rw (drop-cons path i 0 h, e)

    pub deeper : {n : ℕ} → child_of es s (get_or path i 0) ≡ Some n → deepest es s (drop i path) ≡ deepest es n (drop (i + 1) path)
    unfolding deepest
    deeper e = rw (add-one, drop-cons path i 0 h, e)

    pub no_deeper : child_of es s (get_or path i 0) ≡ None → (s, drop i path) ≡ deepest es s (drop i path)
    unfolding deepest
    no_deeper e = rw (drop-cons path i 0 h, e)

-- the end of a path
module _ (path : List ℕ) (i : ℕ) (h : i ≤ length path) (g : length path ≤ i) where
  pub at_end : drop i path ≡ []
  at_end = let e : i ≡ length path = omega arith in rw (e, drop-length)

  pub walk_end : (es : List Edge) (s : ℕ) → walk_of es (drop i path) s ≡ Some s
  unfolding walk_of
  walk_end es s = rw at_end

  pub deepest_end : (es : List Edge) (s : ℕ) → (s, drop (length path) path) ≡ deepest es s (drop i path)
  unfolding deepest
  deepest_end es s = rw (at_end, drop-length)

-- whether a number stands in a list, as the library asks it
pub has_any : (x : ℕ) (xs : List ℕ) → list_any (λ y. eqb y x) xs ≡ has x xs
unfolding has
has_any x [] = refl
has_any x (y ∷ ys) = ap (λ (b : Bool). eqb y x || b) (has_any x ys)

-- ---- how much is there of a path

-- no more is missing than there is of the path
missing_few : (es : List Edge) (s : ℕ) (path : List ℕ) → length (deepest es s path).1 ≤ length path
unfolding deepest
missing_few es s [] = omega arith
missing_few es s (x ∷ path) = go (λ n. missing_few es n path) (child_of es s x)
  where
    go : ((n : ℕ) → length (deepest es n path).1 ≤ length path) → (f : Option ℕ)
        → length (found f (s, x ∷ path) (λ n. deepest es n path)).1 ≤ suc (length path)
    go ih None = omega arith
    go ih (Some n) = omega (arith, ih n)

module _ (es : List Edge) (s : ℕ) (path : List ℕ) where
  pub there_few : (there_of es s path).depth ≤ length path
  unfolding there_of
  there_few = omega arith

  -- what is missing is all behind the ids that are there
  pub there_missing : length path - (there_of es s path).depth ≡ length (deepest es s path).1
  unfolding there_of
  there_missing = omega (arith, missing_few es s path)

  pub there_is : {node depth : ℕ} → depth ≤ length path → (node, drop depth path) ≡ deepest es s path
      → record { node = node; depth = depth } ≡ there_of es s path
  unfolding there_of
  there_is {node} {depth} few e =
      let rest = ap (λ (p : ℕ × List ℕ). length p.1) e in
      let same : depth ≡ length path - length (deepest es s path).1 = omega (arith, rest, length-drop depth path) in
      λ i. record { node = (e i).0; depth = same i }

-- the ids behind those that are there are the missing ones
pub there_rest : (es : List Edge) (s : ℕ) (path : List ℕ) → drop (there_of es s path).depth path ≡ (deepest es s path).1
unfolding there_of deepest
there_rest es s [] = refl
there_rest es s (x ∷ path) = go (λ n. there_rest es n path) (λ n. missing_few es n path) (child_of es s x)
  where
    go : ((n : ℕ) → drop (length path - length (deepest es n path).1) path ≡ (deepest es n path).1)
        → ((n : ℕ) → length (deepest es n path).1 ≤ length path) → (f : Option ℕ)
        → drop (suc (length path) - length (found f (s, x ∷ path) (λ n. deepest es n path)).1) (x ∷ path)
        ≡ (found f (s, x ∷ path) (λ n. deepest es n path)).1
    go ih few None = let all : suc (length path) - suc (length path) ≡ 0 = omega arith in ap (λ (k : ℕ). drop k (x ∷ path)) all
    go ih few (Some n) =
        let one : suc (length path) - length (deepest es n path).1 ≡ suc (length path - length (deepest es n path).1) =
        omega (arith, few n) in
        ap (λ (k : ℕ). drop k (x ∷ path)) one ∙ ih n

-- ---- three words

pub three_stores : (m : List ℕ) (at : ℕ) → at + 3 ≤ length m → (a b d : ℕ)
    → set (set (set m at a) (at + 1) b) (at + 2) d ≡ over m at (a ∷ b ∷ d ∷ [])
unfolding over
three_stores m at room a b d =
    let second : at + 1 ≡ suc at = omega arith in
    let third : at + 2 ≡ suc (suc at) = omega arith in
    (λ i. set (set (set m at a) (second i) b) (third i) d) ∙ sets-eq (a ∷ b ∷ d ∷ []) m at room

-- ---- where a look-up ends

module _ {r : Option ℕ} {f : Option ℕ} (says : r ≡ f) where
  pub reached_node : {n : ℕ} → r ≡ Some n → f ≡ Some n
  reached_node e = sym says ∙ e

  pub reached_none : r ≡ None → f ≡ None
  reached_none e = sym says ∙ e
