-- What a table with more edges and nodes has: it is sound, names mean what they meant, and ways to the root are as they were.
-- Assumes nothing.
use Rattle.std.specs.Prelude.{Option, None, Some}
use mathlib.Core.Bool.{Bool, true, false, ◌&&◌, ◌||◌, and-eq-true_iff}
use mathlib.Core.Path.{◌≡◌, refl, sym, ap, ◌∙◌, subst}
use mathlib.Core.List.{List, [], ◌∷◌, ◌++◌, append_assoc}
use Prim.Native.Nat.{ℕ, zero, suc, ◌+◌, ◌*◌, ◌-◌, ◌<◌, ◌≤◌}
use native.Mathlib.Nat.{not-suc-le-zero}
use native.Mathlib.Numerals.{add-one}
use native.Mathlib.Omega.{arith}
use lib.Dec.{eqb}
use lib.IntN.{ℤ}
use lib.ListN.{length, get_or, take, drop, length-set, get_or-append}
use lib.Seq.{length-take-le, take-length, take-suc, get_or-take, get_or-append-add}
use borrow.Author.Tests.{eqb-true, eqb-false, eq-eqb, ne_eqb}
use Rattle.refusals.specs.Memory.{over}
use Rattle.refusals.proofs.Memory.{length_over}
use Rattle.refusals.proofs.Never.{never}
use Rattle.edges.specs.declared.Edge.{Edge}
use Rattle.symbols.specs.declared.SymbolTable.{SymbolTable}
use Rattle.edges.specs.Edges.{child_of, step_of, walk_of, has, deepest, edge_at, edges_in}
use Rattle.soundness.specs.Sound.{fits, all_fit}
use Rattle.growth.specs.Growth.{front, last_id}
use Rattle.symbols.specs.Symbols.{edges_of, with_data, with_edge, with_node, inserted, grown}
use Rattle.soundness.proofs.Sound.{SoundEdges}
use Rattle.soundness.proofs.Chains.{fit_split, fit_is, fit_more, fit_child, Up, Off, new_off, parent_new, up_old, up_by, off_new}

-- ---- one edge more

-- an edge to a new node, or to one that is not on the way from where it leaves, keeps each node's way to the root
pub edge_sound : (e : Edge) (es : List Edge) (n m k : ℕ) → SoundEdges n k es → n ≤ m → m ≤ 1024 → k < 2048
    → e.from < n → e.to < m → 0 < e.to → 0 < e.id
    → ((s : ℕ) → s < m → (e.to ≡ s → ⊥) → s < n) → Off es e.from e.to → SoundEdges m (k + 1) (e ∷ es)
unfolding all_fit
edge_sound e es n m k h more nodes edges from to below id old off = record {
  some_node = omega (arith, h.some_node);
  few_nodes = nodes;
  few_edges = omega arith;
  fit = (and-eq-true_iff (fits m e) (all_fit m es)).1 (fit_is m e (omega arith) to below id, fit_more n m es more h.fit);
  way = λ s l. go s l (eqb e.to s) refl;
}
  where
    from_way : (j : ℕ) × Up (e ∷ es) j e.from 0
    from_way = let w = h.way e.from from in (w.0, up_old e es w.0 e.from 0 off w.1)

    go : (s : ℕ) → s < m → (b : Bool) → eqb e.to s ≡ b → (j : ℕ) × Up (e ∷ es) j s 0
    go s l true q = (suc from_way.0, (e.from, parent_new e es s (eqb-true _ _ q), from_way.1))
    go s l false q = let w = h.way s (old s l (eqb-false _ _ q)) in up_by e es from_way.0 from_way.1 w.0 s w.1

-- ---- the edges of a changed table

-- words that are the same give the same edges
edges_same : (a b : List ℕ) (k : ℕ) → ((i : ℕ) → i < 3 * k → get_or a i 0 ≡ get_or b i 0) → edges_in a k ≡ edges_in b k
unfolding edges_in edge_at
edges_same a b zero h = refl
edges_same a b (suc k) h =
    let first : edge_at a k ≡ edge_at b k =
    λ i. record { from = h (3 * k) (omega arith) i; id = h (3 * k + 1) (omega arith) i; to = h (3 * k + 2) (omega arith) i } in
    λ i. first i ∷ edges_same a b k (λ j l. h j (omega arith)) i

-- the words s, x and n behind those of k edges
module _ (links : List ℕ) (k s x n : ℕ) (size : length links ≡ 6144) (free : k < 2048) where
  length_before : length (take (3 * k) links) ≡ 3 * k
  length_before = length-take-le (3 * k) links (omega arith)

  pub word_before : (i : ℕ) → i < 3 * k → get_or (over links (3 * k) (s ∷ x ∷ n ∷ [])) i 0 ≡ get_or links i 0
  unfolding over
  word_before i l =
      ap (λ (l : List ℕ). get_or l i 0) (append_assoc (take (3 * k) links) (s ∷ x ∷ n ∷ []) (drop (3 * k + 3) links))
      ∙ get_or-append (take (3 * k) links) (s ∷ x ∷ n ∷ drop (3 * k + 3) links) 0 i (omega (arith, length_before))
      ∙ get_or-take (3 * k) links i 0 l

  pub word_in : (i : ℕ) → get_or (over links (3 * k) (s ∷ x ∷ n ∷ [])) (3 * k + i) 0 ≡ get_or (s ∷ x ∷ n ∷ drop (3 * k + 3) links) i 0
  unfolding over
  word_in i =
      ap (λ (l : List ℕ). get_or l (3 * k + i) 0) (append_assoc (take (3 * k) links) (s ∷ x ∷ n ∷ []) (drop (3 * k + 3) links))
      ∙ ap (λ (j : ℕ). get_or (take (3 * k) links ++ (s ∷ x ∷ n ∷ drop (3 * k + 3) links)) (j + i) 0) (sym length_before)
      ∙ get_or-append-add (take (3 * k) links) (s ∷ x ∷ n ∷ drop (3 * k + 3) links) i 0

  edges_over : edges_in (over links (3 * k) (s ∷ x ∷ n ∷ [])) (k + 1) ≡ record { from = s; id = x; to = n } ∷ edges_in links k
  unfolding edges_in edge_at
  edges_over =
      let m : List ℕ = over links (3 * k) (s ∷ x ∷ n ∷ []) in
      let first : get_or m (3 * k) 0 ≡ s = ap (λ (j : ℕ). get_or m j 0) (omega arith) ∙ word_in 0 in
      rw (add-one k)
      (λ i. record { from = first i; id = word_in 1 i; to = word_in 2 i } ∷ edges_same m links k word_before i)

-- a table that passes the test
abbrev pub Sound : SymbolTable → Type 0
Sound t = SoundEdges t.nodes t.edges (edges_of t)

-- how long a table's lists are
abbrev pub lengths : SymbolTable → ℕ × ℕ
lengths t = (length t.links, length t.numbers)

module _ (t : SymbolTable) where
  pub edges_data : (n : ℕ) (d : Option ℤ) → edges_of (with_data t n d) ≡ edges_of t
  unfolding with_data
  edges_data n d = refl

  pub edges_node : (d : Option ℤ) → edges_of (with_node t d) ≡ edges_of t
  unfolding with_node
  edges_node d = refl

  pub lengths_data : (n : ℕ) (d : Option ℤ) → lengths (with_data t n d) ≡ lengths t
  unfolding with_data
  lengths_data n d = simp length-set

  pub lengths_node : (d : Option ℤ) → lengths (with_node t d) ≡ lengths t
  unfolding with_node
  lengths_node d = simp length-set

  module _ (s x n : ℕ) (size : length t.links ≡ 6144) (free : t.edges < 2048) where
    pub edges_added : edges_of (with_edge t s x n) ≡ record { from = s; id = x; to = n } ∷ edges_of t
    unfolding with_edge
    edges_added = edges_over t.links t.edges s x n size free

    pub lengths_edge : lengths (with_edge t s x n) ≡ lengths t
    unfolding with_edge
    lengths_edge =
        ap (λ (k : ℕ). (k, length t.numbers))
        (length_over t.links (3 * t.edges) (s ∷ x ∷ n ∷ []) (omega arith))

-- ---- names that go on to mean what they mean

-- a name that means a node among the edges es means it among fs
abbrev pub Holds : List Edge → List Edge → Type 0
Holds es fs = (s x c : ℕ) → child_of es s x ≡ Some c → child_of fs s x ≡ Some c

module _ (e : Edge) (es : List Edge) where
  pub child_new : child_of (e ∷ es) e.from e.id ≡ Some e.to
  unfolding child_of
  child_new = rw (eq-eqb e.from e.from refl, eq-eqb e.id e.id refl)

  -- one edge more, under a name that is new there or leads to the same node
  pub holds_edge : ((c : ℕ) → child_of es e.from e.id ≡ Some c → c ≡ e.to) → Holds es (e ∷ es)
  unfolding child_of
  holds_edge same s x c h = go (eqb e.from s && eqb e.id x) refl
    where
      go : (b : Bool) → (eqb e.from s && eqb e.id x) ≡ b → child_of (e ∷ es) s x ≡ Some c
      go true q =
          let a = (and-eq-true_iff (eqb e.from s) (eqb e.id x)).0 q in
          let here : child_of es e.from e.id ≡ child_of es s x =
          λ i. child_of es (eqb-true e.from s a.0 i) (eqb-true e.id x a.1 i) in
          rw q (ap Some (sym (same c (here ∙ h))))
      go false q = rw q h

-- a node that is yet to be made has no children
childless : (es : List Edge) (n s x : ℕ) → all_fit n es ≡ true → n ≤ s → child_of es s x ≡ None
unfolding child_of
childless [] n s x ok l = refl
childless (e ∷ es) n s x ok l =
    let a = fit_split n e es ok in
    rw (ne_eqb e.from s (λ q. omega arith)) (childless es n s x a.4 l)

-- one name of a path
pub walk_on : (es : List Edge) (s x : ℕ) (xs : List ℕ) (c : ℕ) → (x ≡ 0 → ⊥) → child_of es s x ≡ Some c
    → walk_of es (x ∷ xs) s ≡ walk_of es xs c
unfolding walk_of step_of
walk_on es s x xs c h e = rw (ne_eqb x 0 h, e)

-- a path behind another
pub walk_append : (es : List Edge) (xs ys : List ℕ) (s n : ℕ) → walk_of es xs s ≡ Some n → walk_of es (xs ++ ys) s ≡ walk_of es ys n
unfolding walk_of
walk_append es [] ys s n w = let here : s ≡ n = cc in ap (walk_of es ys) here
walk_append es (x ∷ xs) ys s n w = go (walk_append es xs ys) (step_of es s x) refl
  where
    go : ((c m : ℕ) → walk_of es xs c ≡ Some m → walk_of es (xs ++ ys) c ≡ walk_of es ys m)
        → (f : Option ℕ) → step_of es s x ≡ f → walk_of es ((x ∷ xs) ++ ys) s ≡ walk_of es ys n
    go ih None e = let nowhere : None ≡ Some n = rw e at w in never (cc)
    go ih (Some c) e = rw e (ih c n (rw e at w))

-- ---- names of a path

-- a path is its front and its last id
pub path_ends : (path : List ℕ) → 0 < length path → front path ++ (last_id path ∷ []) ≡ path
path_ends path h =
    let e : suc (length path - 1) ≡ length path = omega arith in
    sym (take-suc path (length path - 1) 0 (omega arith)) ∙ ap (λ (k : ℕ). take k path) e ∙ take-length path

pub either_not : (a b : Bool) → (a || b) ≡ false → (a ≡ false) × (b ≡ false)
either_not true b e = never (cc)
either_not false b e = (refl, e)

-- in a list without x the first is another, and x is not in the rest, not in a part, and at no index
pub has_not : (x y : ℕ) (ys : List ℕ) → has x (y ∷ ys) ≡ false → (y ≡ x → ⊥) × (has x ys ≡ false)
unfolding has
has_not x y ys h = let a = either_not (eqb y x) (has x ys) h in (eqb-false y x a.0, a.1)

pub take_not : (x k : ℕ) (ys : List ℕ) → has x ys ≡ false → has x (take k ys) ≡ false
unfolding has
take_not x zero ys h = refl
take_not x (suc k) [] h = refl
take_not x (suc k) (y ∷ ys) h = let a = has_not x y ys h in rw (ne_eqb y x a.0) (take_not x k ys a.1)

pub get_or_not : (x : ℕ) (ys : List ℕ) (i : ℕ) → has x ys ≡ false → i < length ys → get_or ys i 0 ≡ x → ⊥
get_or_not x [] i h l = absurd (not-suc-le-zero l)
get_or_not x (y ∷ ys) zero h l = (has_not x y ys h).0
get_or_not x (y ∷ ys) (suc i) h l = get_or_not x ys i (has_not x y ys h).1 (omega arith)

-- ---- the deepest node that is there

-- the first name is new
abbrev pub Missing : List Edge → ℕ → List ℕ → Type 0
Missing es s [] = Unit {0}
Missing es s (x ∷ xs) = child_of es s x ≡ None

pub all_missing : (es : List Edge) (s : ℕ) (xs : List ℕ) → ((x : ℕ) → child_of es s x ≡ None) → Missing es s xs
all_missing es s [] h = tt
all_missing es s (x ∷ xs) h = h x

-- of a path from s, d is the deepest of n nodes that is there, and xs are the names that are missing
pub record Deepest (n : ℕ) (es : List Edge) (s : ℕ) (path : List ℕ) (d : ℕ) (xs : List ℕ) : Type 0 where
  pub node : d < n
  pub names : has 0 xs ≡ false
  pub missing : Missing es d xs
  pub walk : (fs : List Edge) → Holds es fs → walk_of fs path s ≡ walk_of fs xs d

pub deepest_is : (es : List Edge) (n s : ℕ) (path : List ℕ) → all_fit n es ≡ true → s < n → has 0 path ≡ false
    → Deepest n es s path (deepest es s path).0 (deepest es s path).1
unfolding deepest
deepest_is es n s [] ok l h = record { node = l; names = h; missing = tt; walk = λ fs on. refl }
deepest_is es n s (x ∷ path) ok l h = go (λ c. deepest_is es n c path ok) (child_of es s x) refl
  where
    go : ((c : ℕ) → c < n → has 0 path ≡ false → Deepest n es c path (deepest es c path).0 (deepest es c path).1)
        → (f : Option ℕ) → child_of es s x ≡ f
        → Deepest n es s (x ∷ path) (deepest es s (x ∷ path)).0 (deepest es s (x ∷ path)).1
    go ih None e = rw e (record { node = l; names = h; missing = e; walk = λ fs on. refl })
    go ih (Some c) e =
        let name = has_not 0 x path h in
        let d = ih c (fit_child es n s x c ok e) name.1 in
        rw e
        (record {
          node = d.node;
          names = d.names;
          missing = d.missing;
          walk = λ fs on. walk_on fs s x path c name.0 (on s x c e) ∙ d.walk fs on;
        })

-- ---- one new node

-- there is room for one more node, below s by the name x
pub record Place (t : SymbolTable) (s x : ℕ) : Type 0 where
  pub is_sound : Sound t
  pub size : length t.links ≡ 6144
  pub node : s < t.nodes
  pub name : 0 < x
  pub nodes : t.nodes < 1024
  pub edges : t.edges < 2048

module _ (t : SymbolTable) (s x : ℕ) (d : Option ℤ) (h : Place t s x) where
  -- the edge to it
  edge : Edge
  edge = record { from = s; id = x; to = t.nodes }

  edges_inserted : edges_of (inserted t s x d) ≡ edge ∷ edges_of t
  unfolding with_node edge
  edges_inserted = edges_added (with_node t d) s x t.nodes h.size h.edges

  pub lengths_inserted : lengths (inserted t s x d) ≡ lengths t
  unfolding with_node
  lengths_inserted = lengths_edge (with_node t d) s x t.nodes h.size h.edges ∙ lengths_node t d

  -- the new node is on no way yet
  its_end : Off (edges_of t) s t.nodes
  its_end = new_off (edges_of t) t.nodes s h.is_sound.fit h.node

  pub inserted_sound : Sound (inserted t s x d)
  unfolding with_node with_edge edge
  inserted_sound =
      subst (λ (es : List Edge). SoundEdges (t.nodes + 1) (t.edges + 1) es) (sym edges_inserted)
      (edge_sound edge (edges_of t) t.nodes (t.nodes + 1) t.edges h.is_sound
      (omega arith) (omega arith) h.edges h.node (omega arith) (omega arith) h.name
      (λ i l q. omega (arith, q)) its_end)

  inserted_off : (m : ℕ) → m < t.nodes → Off (edges_of t) s m → Off (edges_of (inserted t s x d)) t.nodes m
  unfolding edge
  inserted_off m l off = rw edges_inserted (off_new edge (edges_of t) m its_end off (λ q. omega arith))

  -- and what is not on the way from it was not on the way from where its edge leaves
  inserted_on : (m : ℕ) → Off (edges_of (inserted t s x d)) t.nodes m → Off (edges_of t) s m
  unfolding edge
  inserted_on m =
      let es : List Edge = edges_of t in
      rw edges_inserted (λ off j w. off (suc j) (s, parent_new edge es t.nodes refl, up_old edge es j s m its_end w))

  pub inserted_child : child_of (edges_of (inserted t s x d)) s x ≡ Some t.nodes
  unfolding edge
  inserted_child = rw edges_inserted (child_new edge (edges_of t))

  inserted_holds : child_of (edges_of t) s x ≡ None → Holds (edges_of t) (edges_of (inserted t s x d))
  unfolding edge
  inserted_holds missing = rw edges_inserted (holds_edge edge (edges_of t) (λ c e. never (cc)))

  pub inserted_childless : (y : ℕ) → child_of (edges_of (inserted t s x d)) t.nodes y ≡ None
  unfolding edge child_of
  inserted_childless y =
      let other = ne_eqb s t.nodes (λ q. omega arith) in
      rw (edges_inserted, other) (childless (edges_of t) t.nodes t.nodes y h.is_sound.fit (omega arith))

-- ---- new nodes, one below the other

-- from s in the table t, by the names xs, they give the table u and the node n: what was not on the way from s is not on the way
-- from n, and the other way about; names go on to mean what they meant, the names xs lead to n, and only where there are none has
-- n children
pub record Grown (t : SymbolTable) (s : ℕ) (xs : List ℕ) (u : SymbolTable) (n : ℕ) : Type 0 where
  pub is_sound : Sound u
  pub same_lengths : lengths u ≡ lengths t
  pub nodes : u.nodes ≡ t.nodes + length xs
  pub edges : u.edges ≡ t.edges + length xs
  pub node : n < u.nodes
  pub off : (m : ℕ) → m < t.nodes → Off (edges_of t) s m → Off (edges_of u) n m
  pub on : (m : ℕ) → Off (edges_of u) n m → Off (edges_of t) s m
  pub holds : Holds (edges_of t) (edges_of u)
  pub walk : (fs : List Edge) → Holds (edges_of u) fs → walk_of fs xs s ≡ Some n
  pub below : (x c : ℕ) → child_of (edges_of u) n x ≡ Some c → (length xs ≡ 0) × (child_of (edges_of t) s x ≡ Some c)

pub grown_is : (xs : List ℕ) (t : SymbolTable) (s : ℕ) → Sound t → length t.links ≡ 6144 → s < t.nodes → has 0 xs ≡ false
    → Missing (edges_of t) s xs → t.nodes + length xs ≤ 1024 → t.edges + length xs ≤ 2048
    → Grown t s xs (grown t s xs).0 (grown t s xs).1
unfolding grown walk_of with_edge with_node
grown_is [] t s h size node names missing nodes edges = record {
  is_sound = h;
  same_lengths = refl;
  nodes = omega arith;
  edges = omega arith;
  node = node;
  off = λ m l o. o;
  on = λ m o. o;
  holds = λ a x c e. e;
  walk = λ fs on. refl;
  below = λ x c e. (refl, e);
}
grown_is (x ∷ xs) t s h size node names missing nodes edges =
    let name = has_not 0 x xs names in
    let place : Place t s x = record {
      is_sound = h;
      size = size;
      node = node;
      name = omega (arith, name.0);
      nodes = omega arith;
      edges = omega arith;
    } in
    let u : SymbolTable = inserted t s x None in
    let n : ℕ = t.nodes in
    let as_long = lengths_inserted t s x None place in
    let bare = inserted_childless t s x None place in
    let g = grown_is xs u n
    (inserted_sound t s x None place) (ap (λ l. l.0) as_long ∙ size) (omega arith) name.1
    (all_missing (edges_of u) n xs bare) (omega arith) (omega arith) in
    record {
      is_sound = g.is_sound;
      same_lengths = g.same_lengths ∙ as_long;
      nodes = omega (arith, g.nodes);
      edges = omega (arith, g.edges);
      node = g.node;
      off = λ m l o. g.off m (omega arith) (inserted_off t s x None place m l o);
      on = λ m o. inserted_on t s x None place m (g.on m o);
      holds = λ a y c e. g.holds a y c (inserted_holds t s x None place missing a y c e);
      walk = λ fs on. walk_on fs s x xs n name.0 (on s x n (g.holds s x n (inserted_child t s x None place))) ∙ g.walk fs on;
      below = λ y c e. let here = (g.below y c e).1 in let nothing = bare y in never (cc);
    }
