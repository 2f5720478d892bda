-- One turn of a look-up by the index, and an index edge by edge. Assumes nothing.
use Rattle.std.specs.Prelude.{Option, None, Some}
use mathlib.Core.Bool.{true, false, ◌||◌}
use mathlib.Core.List.{List, [], ◌∷◌}
use mathlib.Core.Path.{◌≡◌, refl, sym, ap, ◌∙◌}
use Prim.Native.Nat.{ℕ, zero, suc, ◌+◌, ◌-◌, ◌<◌, ◌≤◌, min}
use native.Mathlib.Omega.{arith}
use native.Mathlib.Numerals.{add-one}
use lib.Dec.{eqb}
use lib.ListN.{length, get_or, take, replicate}
use borrow.Author.Tests.{eq-eqb, ne_eqb, lt-ltb}
use Rattle.edges.specs.declared.Edge.{Edge}
use Rattle.edges.specs.Edges.{max_nodes, max_edges, found, has, last_edge, edge_at}
use Rattle.edges.proofs.Laws.{edge_here}
use Rattle.index.specs.Index.{bucket, edge_word, older_than, is_named, among, child_by, id_at, ids_from, path_in, ids_of, step_by, walk_by, noted, added, words, index_of}

-- ---- one turn: n edges are left to look at, and edge k - 1 is the next

module _ (index links : List ℕ) (s x : ℕ) where
  pub among_out : (n k : ℕ) → n ≤ 0 → among index links s x n k ≡ None
  unfolding among
  among_out zero k h = refl
  among_out (suc n) k h = absurd (omega arith)

  pub among_none : (n : ℕ) {k : ℕ} → k ≡ 0 → among index links s x n k ≡ None
  unfolding among
  among_none zero e = refl
  among_none (suc n) e = rw e

  module _ {n k : ℕ} (more : 0 < n) (some-edge : k ≡ 0 → ⊥) {e : Edge} (is : e ≡ edge_at links (min (k - 1) last_edge)) where
    turn : among index links s x n k ≡ among index links s x (suc (n - 1)) (suc (k - 1))
    turn =
        let a : n ≡ suc (n - 1) = omega arith in
        let b : k ≡ suc (k - 1) = omega arith in
        λ i. among index links s x (a i) (b i)

    pub among_here : is_named s x e ≡ true → among index links s x n k ≡ Some e.to
    unfolding among
    among_here named = turn ∙ rw (← is, named)

    pub among_on : is_named s x e ≡ false → {next : ℕ} → next ≡ older_than index (k - 1) → {m : ℕ} → m ≡ n - 1
        → among index links s x n k ≡ among index links s x m next
    unfolding among
    among_on other next-is m-is = turn ∙ rw (← is, other, next-is, m-is)

-- all of them, from the newest of the bucket on
pub among_all : (index links : List ℕ) (n s x : ℕ) {b k m : ℕ} → b ≡ bucket s x → k ≡ get_or index b 0 → m ≡ n
    → child_by index links n s x ≡ among index links s x m k
unfolding child_by
among_all index links n s x b-is k-is all = rw (all, k-is, b-is)

-- ---- an edge more

module _ (index : List ℕ) (i : ℕ) (e : Edge) where
  pub added_room : i < max_edges → e.from < max_nodes → e.to < max_nodes → noted index i e ≡ added index i e
  unfolding added
  added_room a b c = rw (lt-ltb i max_edges a, lt-ltb e.from max_nodes b, lt-ltb e.to max_nodes c)

pub indexless : (links : List ℕ) → replicate words 0 ≡ index_of links 0
unfolding index_of
indexless links = refl

pub index_more : (links : List ℕ) (i : ℕ) {index : List ℕ} {e : Edge} → i < max_edges → e ≡ edge_at links (min i last_edge)
    → index ≡ index_of links i → added index i e ≡ index_of links (i + 1)
unfolding index_of
index_more links i below is so_far = rw (add-one i, so_far, edge_here links i below is)

-- ---- the next older edge

module _ (index : List ℕ) (i : ℕ) where
  pub older_word : i < max_edges → get_or index (edge_word i) 0 ≡ older_than index i
  unfolding older_than
  older_word h = rw (lt-ltb i max_edges h)

-- ---- a path

-- one turn of a loop over it, of which `count` ids there are, i of them passed
module _ (index links : List ℕ) (n : ℕ) (ids : List ℕ) (count i s : ℕ) where
  -- what is left of the walk
  abbrev pub left : ℕ → ℕ → Option ℕ
  left j at = walk_by index links n (ids_from ids j (count - j)) at

  module _ (h : i < count) {x : ℕ} (is : x ≡ id_at ids i) where
    turns : left i s ≡ found (step_by index links n s x) None (λ m. left (i + 1) m)
    unfolding walk_by ids_from
    turns =
        let more : count - i ≡ suc (count - (i + 1)) = omega arith in
        let next : suc i ≡ i + 1 = omega arith in
        (λ j. walk_by index links n (ids_from ids i (more j)) s)
        ∙ (λ j. found (step_by index links n s (sym is j)) None (λ m. walk_by index links n (ids_from ids (next j) (count - (i + 1))) m))

    pub walk_on : {m : ℕ} → step_by index links n s x ≡ Some m → left i s ≡ left (i + 1) m
    walk_on e = turns ∙ ap (λ (o : Option ℕ). found o None (λ m. left (i + 1) m)) e

    pub walk_stuck : step_by index links n s x ≡ None → left i s ≡ None
    walk_stuck e = turns ∙ ap (λ (o : Option ℕ). found o None (λ m. left (i + 1) m)) e

  pub walk_end : count ≤ i → left i s ≡ Some s
  unfolding walk_by ids_from
  walk_end g = let none_left : count - i ≡ 0 = omega arith in ap (λ (k : ℕ). walk_by index links n (ids_from ids i k) s) none_left

-- whether a super is among those that are left
module _ (ids : List ℕ) (count i : ℕ) where
  module _ (h : i < count) {x : ℕ} (is : x ≡ id_at ids i) where
    looks : has 0 (ids_from ids i (count - i)) ≡ eqb x 0 || has 0 (ids_from ids (i + 1) (count - (i + 1)))
    unfolding ids_from has
    looks =
        let more : count - i ≡ suc (count - (i + 1)) = omega arith in
        let next : suc i ≡ i + 1 = omega arith in
        (λ j. has 0 (ids_from ids i (more j))) ∙ (λ j. eqb (sym is j) 0 || has 0 (ids_from ids (next j) (count - (i + 1))))

    pub super_here : x ≡ 0 → has 0 (ids_from ids i (count - i)) ≡ true
    super_here e = looks ∙ rw (eq-eqb x 0 e)

    pub super_later : (x ≡ 0 → ⊥) → has 0 (ids_from ids i (count - i)) ≡ has 0 (ids_from ids (i + 1) (count - (i + 1)))
    super_later e = looks ∙ rw (ne_eqb x 0 e)

  pub super_none : count ≤ i → has 0 (ids_from ids i (count - i)) ≡ false
  unfolding ids_from has
  super_none g = let none_left : count - i ≡ 0 = omega arith in ap (λ (k : ℕ). has 0 (ids_from ids i k)) none_left

-- ---- the words of a path give it back

pub path_words : (a b c d k : ℕ) → k ≤ 4 → path_in (a ∷ b ∷ c ∷ d ∷ []) k ≡ take k (a ∷ b ∷ c ∷ d ∷ [])
unfolding ids_from id_at
path_words a b c d zero h = refl
path_words a b c d (suc zero) h = refl
path_words a b c d (suc (suc zero)) h = refl
path_words a b c d (suc (suc (suc zero))) h = refl
path_words a b c d (suc (suc (suc (suc zero)))) h = refl
path_words a b c d (suc (suc (suc (suc (suc k))))) h = absurd (omega arith)

path_is : (path : List ℕ) → length path ≤ 4 → path_in (ids_of path) (length path) ≡ path
unfolding ids_from id_at ids_of
path_is [] h = refl
path_is (a ∷ []) h = refl
path_is (a ∷ b ∷ []) h = refl
path_is (a ∷ b ∷ c ∷ []) h = refl
path_is (a ∷ b ∷ c ∷ d ∷ []) h = refl
path_is (a ∷ b ∷ c ∷ d ∷ e ∷ path) h = absurd (omega arith)

-- the same of words that are those of the path
pub words_path : (path : List ℕ) {ids : List ℕ} → ids ≡ ids_of path → length path ≤ 4 → path_in ids (length path) ≡ path
words_path path is h = ap (λ (l : List ℕ). path_in l (length path)) is ∙ path_is path h
