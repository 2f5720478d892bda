-- The index of edges that fit a table answers as the edges do: what an edge more changes in its words, and then edge by edge. Assumes
-- nothing.
use Rattle.std.specs.Prelude.{Option, None, Some}
use mathlib.Core.Bool.{Bool, true, false, and-eq-true_iff}
use mathlib.Core.List.{List, [], ◌∷◌}
use mathlib.Core.Path.{◌≡◌, refl, sym, ap, ◌∙◌, subst}
use Prim.Native.Nat.{ℕ, zero, suc, ◌+◌, ◌-◌, ◌<◌, ◌≤◌, min}
use native.Mathlib.Numerals.{add-one}
use native.Mathlib.Omega.{arith}
use lib.Dec.{eqb, ltb}
use lib.ListN.{length, get_or, set, replicate, length-set, length-replicate}
use lib.Seq.{get_or-set_same, get_or-set_other}
use borrow.Author.Tests.{eqb-true, eqb-false, ne_eqb, ltb-true, ltb-false}
use Rattle.refusals.specs.Answer.{pick}
use Rattle.edges.specs.declared.Edge.{Edge}
use Rattle.edges.specs.Edges.{max_nodes, max_edges, last_edge, found, child_of, parent_of, step_of, walk_of, edge_at, edges_in}
use Rattle.soundness.specs.Sound.{all_fit}
use Rattle.soundness.proofs.Chains.{fit_split}
use Rattle.soundness.proofs.Sound.{zero_at}
use Rattle.index.specs.Index.{bucket, node_word, edge_word, older_than, is_named, among, child_by, less1, parent_by, step_by, walk_by, noted, added, words, index_of}
use Rattle.index.proofs.Laws.{among_none, among_here, among_on, added_room, older_word}

-- each word of an index of n edges leads to an older edge
pub record Made (index : List ℕ) (n : ℕ) : Type 0 where
  pub long : length index ≡ words
  pub newest : (c : ℕ) → c < max_nodes → get_or index c 0 ≤ n
  pub older : (j : ℕ) → get_or index (edge_word j) 0 ≤ j

-- ---- the words of one edge more

module _ (index : List ℕ) (long : length index ≡ words) (i : ℕ) (e : Edge) (room : i < max_edges) (from-few : e.from < max_nodes)
    (to-few : e.to < max_nodes) where
  abbrev b : ℕ
  b = bucket e.from e.id

  abbrev first : List ℕ
  first = set index (edge_word i) (get_or index b 0)

  abbrev second : List ℕ
  second = set first b (i + 1)

  long_first : length first ≡ words
  long_first = length-set index (edge_word i) (get_or index b 0) ∙ long

  long_second : length second ≡ words
  long_second = length-set first b (i + 1) ∙ long_first

  pub long_noted : length (noted index i e) ≡ words
  unfolding noted
  long_noted = length-set second (node_word e.to) (e.from + 1) ∙ long_second

  -- a bucket's
  pub newest_here : get_or (noted index i e) b 0 ≡ i + 1
  unfolding noted
  newest_here =
      get_or-set_other second (node_word e.to) b (e.from + 1) 0 (λ z. omega arith)
      ∙ get_or-set_same first b (i + 1) 0 (omega (arith, long_first))

  pub newest_there : (c : ℕ) → c < max_nodes → (c ≡ b → ⊥) → get_or (noted index i e) c 0 ≡ get_or index c 0
  unfolding noted
  newest_there c few other =
      get_or-set_other second (node_word e.to) c (e.from + 1) 0 (λ z. omega arith)
      ∙ get_or-set_other first b c (i + 1) 0 other
      ∙ get_or-set_other index (edge_word i) c (get_or index b 0) 0 (λ z. omega arith)

  -- an edge's
  pub older_here : get_or (noted index i e) (edge_word i) 0 ≡ get_or index b 0
  unfolding noted
  older_here =
      get_or-set_other second (node_word e.to) (edge_word i) (e.from + 1) 0 (λ z. omega arith)
      ∙ get_or-set_other first b (edge_word i) (i + 1) 0 (λ z. omega arith)
      ∙ get_or-set_same index (edge_word i) (get_or index b 0) 0 (omega (arith, long))

  pub older_there : (j : ℕ) → (j ≡ i → ⊥) → get_or (noted index i e) (edge_word j) 0 ≡ get_or index (edge_word j) 0
  unfolding noted
  older_there j other =
      get_or-set_other second (node_word e.to) (edge_word j) (e.from + 1) 0 (λ z. omega arith)
      ∙ get_or-set_other first b (edge_word j) (i + 1) 0 (λ z. omega arith)
      ∙ get_or-set_other index (edge_word i) (edge_word j) (get_or index b 0) 0 (λ z. other (omega arith))

  -- a node's
  pub parent_here : get_or (noted index i e) (node_word e.to) 0 ≡ e.from + 1
  unfolding noted
  parent_here = get_or-set_same second (node_word e.to) (e.from + 1) 0 (omega (arith, long_second))

  pub parent_there : (s : ℕ) → s < max_nodes → (s ≡ e.to → ⊥) → get_or (noted index i e) (node_word s) 0 ≡ get_or index (node_word s) 0
  unfolding noted
  parent_there s few other =
      get_or-set_other second (node_word e.to) (node_word s) (e.from + 1) 0 (λ z. other (omega arith))
      ∙ get_or-set_other first b (node_word s) (i + 1) 0 (λ z. omega arith)
      ∙ get_or-set_other index (edge_word i) (node_word s) (get_or index b 0) 0 (λ z. omega arith)

  -- ---- each word leads to an older edge

  module _ (m : Made index i) where
    more_newest : (c : ℕ) → c < max_nodes → get_or (noted index i e) c 0 ≤ suc i
    more_newest c few = go (eqb c b) refl
      where
        go : (t : Bool) → eqb c b ≡ t → get_or (noted index i e) c 0 ≤ suc i
        go true here = omega (arith, ap (λ (k : ℕ). get_or (noted index i e) k 0) (eqb-true c b here), newest_here)
        go false there = omega (arith, newest_there c few (eqb-false c b there), m.newest c few)

    more_older : (j : ℕ) → get_or (noted index i e) (edge_word j) 0 ≤ j
    more_older j = go (eqb j i) refl
      where
        go : (t : Bool) → eqb j i ≡ t → get_or (noted index i e) (edge_word j) 0 ≤ j
        go true here =
            let is = eqb-true j i here in
            omega (arith, ap (λ (k : ℕ). get_or (noted index i e) (edge_word k) 0) is, older_here, m.newest b (omega arith))
        go false there = omega (arith, older_there j (eqb-false j i there), m.older j)

    pub made_more : Made (noted index i e) (suc i)
    made_more = record { long = long_noted; newest = more_newest; older = more_older }

-- ---- a look-up reads no word behind its edge's

module _ (links : List ℕ) (s x : ℕ) (index after : List ℕ) (n : ℕ) (few : n ≤ max_edges)
    (falls : (j : ℕ) → get_or index (edge_word j) 0 ≤ j)
    (same : (j : ℕ) → j < n → get_or after (edge_word j) 0 ≡ get_or index (edge_word j) 0) where
  among_same : (f k : ℕ) → k ≤ n → among after links s x f k ≡ among index links s x f k
  unfolding among
  among_same zero k h = refl
  among_same (suc f) zero h = refl
  among_same (suc f) (suc k) h =
      let e = edge_at links (min k last_edge) in
      let before = older_word index k (omega arith) in
      let now = sym (older_word after k (omega arith)) ∙ same k (omega arith) ∙ before in
      ap (λ (rest : Option ℕ). pick (is_named s x e) (Some e.to) rest)
      (ap (among after links s x f) now ∙ among_same f (older_than index k) (omega (arith, before, falls k)))

-- ---- edge by edge

module _ (links : List ℕ) where
  abbrev Fit : ℕ → Type 0
  Fit n = all_fit max_nodes (edges_in links n) ≡ true

  abbrev index : ℕ → List ℕ
  index n = index_of links n

  abbrev last : ℕ → Edge
  last n = edge_at links n

  fit_last : (n : ℕ) → Fit (suc n) → ((last n).from < max_nodes) × ((last n).to < max_nodes) × Fit n
  unfolding edges_in
  fit_last n fit = let h = fit_split max_nodes (last n) (edges_in links n) fit in (h.0, h.1, h.4)

  next : (n : ℕ) → suc n ≤ max_edges → Fit (suc n) → noted (index n) n (last n) ≡ index (suc n)
  unfolding index_of
  next n few fit = let h = fit_last n fit in added_room (index n) n (last n) (omega arith) h.0 h.1

  pub made : (n : ℕ) → n ≤ max_edges → Fit n → Made (index n) n
  unfolding index_of
  made zero few fit = record {
    long = length-replicate {A = ℕ} words 0;
    newest = λ c h. omega (arith, zero_at words c);
    older = λ j. omega (arith, zero_at words (edge_word j));
  }
  made (suc n) few fit =
      let h = fit_last n fit in
      let m = made n (omega arith) h.2 in
      subst (λ (l : List ℕ). Made l (suc n)) (next n few fit)
      (made_more (index n) m.long n (last n) (omega arith) h.0 h.1 m)

  module _ (s x : ℕ) where
    abbrev here : ℕ
    here = bucket s x

    -- from the newest edge of the bucket on, of at most f edges
    abbrev asked : List ℕ → ℕ → Option ℕ
    asked l f = among l links s x f (get_or l here 0)

    -- edge n, which is e, is added to the index of n edges
    module _ (n : ℕ) (few : suc n ≤ max_edges) (fit : Fit (suc n)) where
      abbrev e : Edge
      e = last n

      abbrev its : ℕ
      its = bucket e.from e.id

      h : (e.from < max_nodes) × (e.to < max_nodes) × Fit n
      h = fit_last n fit

      m : Made (index n) n
      m = made n (omega arith) h.2

      abbrev l : List ℕ
      l = noted (index n) n e

      older_same : (j : ℕ) → j < n → get_or l (edge_word j) 0 ≡ get_or (index n) (edge_word j) 0
      older_same j below = older_there (index n) m.long n e (omega arith) h.0 h.1 j (λ z. omega arith)

      -- the edges that were there, of at most g
      before : (g : ℕ) → among l links s x g (get_or (index n) here 0) ≡ asked (index n) g
      before g =
          among_same links s x (index n) l n (omega arith) m.older older_same g (get_or (index n) here 0)
          (m.newest here (omega arith))

      child_more : (f : ℕ) → suc n ≤ f → ((g : ℕ) → n ≤ g → asked (index n) g ≡ child_of (edges_in links n) s x)
          → asked l f ≡ pick (is_named s x e) (Some e.to) (child_of (edges_in links n) s x)
      child_more f room ih = go (eqb here its) refl (is_named s x e) refl
        where
          is : e ≡ edge_at links (min (n + 1 - 1) last_edge)
          is = let same : n ≡ min (n + 1 - 1) last_edge = omega arith in ap (edge_at links) same

          -- it is the newest of the bucket
          newest : here ≡ its → asked l f ≡ among l links s x f (n + 1)
          newest q =
              ap (among l links s x f)
              (ap (λ (c : ℕ). get_or l c 0) q ∙ newest_here (index n) m.long n e (omega arith) h.0 h.1)

          -- what was the newest is next
          next_older : here ≡ its → get_or (index n) here 0 ≡ older_than l (n + 1 - 1)
          next_older q =
              let same : n ≡ n + 1 - 1 = omega arith in
              ap (λ (c : ℕ). get_or (index n) c 0) q
              ∙ sym (older_here (index n) m.long n e (omega arith) h.0 h.1)
              ∙ older_word l n (omega arith)
              ∙ ap (older_than l) same

          go : (t : Bool) → eqb here its ≡ t → (u : Bool) → is_named s x e ≡ u
              → asked l f ≡ pick u (Some e.to) (child_of (edges_in links n) s x)
          go true p true q =
              newest (eqb-true here its p) ∙ among_here l links s x (omega arith) (λ z. omega arith) is q
          go true p false q =
              let here-is = eqb-true here its p in
              newest here-is ∙ among_on l links s x (omega arith) (λ z. omega arith) is q (next_older here-is) refl
              ∙ before (f - 1) ∙ ih (f - 1) (omega arith)
          go false p true q =
              let named = (and-eq-true_iff (eqb e.from s) (eqb e.id x)).0 q in
              absurd (eqb-false here its p (λ i. bucket (sym (eqb-true e.from s named.0) i) (sym (eqb-true e.id x named.1) i)))
          go false p false q =
              ap (among l links s x f)
              (newest_there (index n) m.long n e (omega arith) h.0 h.1 here (omega arith) (eqb-false here its p))
              ∙ before f ∙ ih f (omega arith)

    child_asked : (n f : ℕ) → n ≤ f → n ≤ max_edges → Fit n → asked (index n) f ≡ child_of (edges_in links n) s x
    unfolding index_of edges_in child_of
    child_asked zero f room few fit = among_none (replicate words 0) links s x f (zero_at words here)
    child_asked (suc n) f room few fit =
        ap (λ (l : List ℕ). asked l f) (sym (next n few fit))
        ∙ child_more n few fit f room (λ g more. child_asked n g more (omega arith) (fit_last n fit).2)

    pub child_agrees : (n : ℕ) → n ≤ max_edges → Fit n → child_by (index n) links n s x ≡ child_of (edges_in links n) s x
    unfolding child_by
    child_agrees n few fit = child_asked n n (omega arith) few fit

  -- ---- parents

  module _ (s : ℕ) where
    parent_word : (n : ℕ) → s < max_nodes → n ≤ max_edges → Fit n → less1 (get_or (index n) (node_word s) 0) ≡ parent_of (edges_in links n) s
    unfolding index_of edges_in parent_of
    parent_word zero below few fit = ap less1 (zero_at words (node_word s))
    parent_word (suc n) below few fit =
        ap (λ (l : List ℕ). less1 (get_or l (node_word s) 0)) (sym (next n few fit))
        ∙ parent_more n below few fit (parent_word n below (omega arith) (fit_last n fit).2)
      where
        parent_more : (n : ℕ) → s < max_nodes → suc n ≤ max_edges → Fit (suc n)
            → less1 (get_or (index n) (node_word s) 0) ≡ parent_of (edges_in links n) s
            → less1 (get_or (noted (index n) n (last n)) (node_word s) 0)
            ≡ pick (eqb (last n).to s) (Some (last n).from) (parent_of (edges_in links n) s)
        parent_more n below few fit ih = go (eqb (last n).to s) refl
          where
            h : ((last n).from < max_nodes) × ((last n).to < max_nodes) × Fit n
            h = fit_last n fit

            long : length (index n) ≡ words
            long = (made n (omega arith) h.2).long

            go : (t : Bool) → eqb (last n).to s ≡ t → less1 (get_or (noted (index n) n (last n)) (node_word s) 0)
                ≡ pick t (Some (last n).from) (parent_of (edges_in links n) s)
            go true p =
                let is = sym (eqb-true (last n).to s p) in
                let one : (last n).from + 1 ≡ suc (last n).from = omega arith in
                ap less1
                (ap (λ (k : ℕ). get_or (noted (index n) n (last n)) (node_word k) 0) is
                ∙ parent_here (index n) long n (last n) (omega arith) h.0 h.1 ∙ one)
            go false p =
                ap less1
                (parent_there (index n) long n (last n) (omega arith) h.0 h.1 s below (λ z. eqb-false (last n).to s p (sym z)))
                ∙ ih

    -- no edge leads beyond the nodes
    none_beyond : (n : ℕ) → max_nodes ≤ s → Fit n → None ≡ parent_of (edges_in links n) s
    unfolding edges_in parent_of
    none_beyond zero beyond fit = refl
    none_beyond (suc n) beyond fit =
        let h = fit_last n fit in
        none_beyond n beyond h.2
        ∙ sym (ap (λ (t : Bool). pick t (Some (last n).from) (parent_of (edges_in links n) s)) (ne_eqb (last n).to s (λ z. omega arith)))

    pub parent_agrees : (n : ℕ) → n ≤ max_edges → Fit n → parent_by (index n) s ≡ parent_of (edges_in links n) s
    unfolding parent_by
    parent_agrees n few fit = go (ltb s max_nodes) refl
      where
        go : (t : Bool) → ltb s max_nodes ≡ t → pick t (less1 (get_or (index n) (node_word s) 0)) None ≡ parent_of (edges_in links n) s
        go true p = parent_word n (ltb-true s max_nodes p) few fit
        go false p = none_beyond n (ltb-false s max_nodes p) fit

  -- ---- paths

  module _ (n : ℕ) (few : n ≤ max_edges) (fit : Fit n) where
    step_agrees : (s x : ℕ) → step_by (index n) links n s x ≡ step_of (edges_in links n) s x
    unfolding step_by step_of
    step_agrees s x i = pick (eqb x 0) (parent_agrees s n few fit i) (child_agrees s x n few fit i)

    pub walk_agrees : (path : List ℕ) (s : ℕ) → walk_by (index n) links n path s ≡ walk_of (edges_in links n) path s
    unfolding walk_by walk_of
    walk_agrees [] s = refl
    walk_agrees (x ∷ path) s =
        ap (λ (o : Option ℕ). found o None (λ m. walk_by (index n) links n path m)) (step_agrees s x)
        ∙ go (step_of (edges_in links n) s x) (λ m. walk_agrees path m)
      where
        go : (o : Option ℕ) → ((m : ℕ) → walk_by (index n) links n path m ≡ walk_of (edges_in links n) path m)
            → found o None (λ m. walk_by (index n) links n path m) ≡ found o None (λ m. walk_of (edges_in links n) path m)
        go None ih = refl
        go (Some m) ih = ih m

-- ---- words that hold the same edges have one index

abbrev first_of : Edge → List Edge → Edge
first_of e [] = e
first_of e (d ∷ es) = d

abbrev rest_of : List Edge → List Edge
rest_of [] = []
rest_of (d ∷ es) = es

index_same : (a b : List ℕ) (n : ℕ) → edges_in a n ≡ edges_in b n → index_of a n ≡ index_of b n
unfolding index_of edges_in
index_same a b zero e = refl
index_same a b (suc n) e =
    let before = index_same a b n (ap rest_of e) in
    let edge = ap (first_of (edge_at a n)) e in
    λ i. added (before i) n (edge i)

-- words that hold an edge more
pub index_put : (links after : List ℕ) (n : ℕ) {e : Edge} → edges_in after (n + 1) ≡ e ∷ edges_in links n
    → added (index_of links n) n e ≡ index_of after (n + 1)
unfolding index_of edges_in
index_put links after n {e} more =
    let one = add-one n in
    let all : edges_in after (suc n) ≡ e ∷ edges_in links n = ap (edges_in after) (sym one) ∙ more in
    let before = index_same links after n (sym (ap rest_of all)) in
    let edge = sym (ap (first_of e) all) in
    (λ i. added (before i) n (edge i)) ∙ ap (index_of after) (sym one)
