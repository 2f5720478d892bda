-- What the tests of a call say, one behind the other, and which answer the definitions give behind them. Assumes nothing.
use Rattle.std.specs.Prelude.{Option, None, Some}
use mathlib.Core.Bool.{Bool, true, false, ◌&&◌, and-eq-true_iff}
use mathlib.Core.Path.{◌≡◌, refl, sym, ap, ◌∙◌, subst}
use mathlib.Core.List.{List, [], ◌∷◌}
use Prim.Native.Nat.{ℕ, ◌+◌, ◌-◌, ◌<◌, ◌≤◌}
use native.Mathlib.Omega.{arith}
use lib.Dec.{eqb, leb, ltb}
use lib.ListN.{length, take}
use lib.Seq.{length-take-le}
use borrow.Author.Tests.{eq-eqb, ne_eqb, le-leb, lt-leb, leb-true, leb-false, le-ltb, lt-ltb, ltb-true}
use Rattle.refusals.specs.Answer.{Done, Refused, pick, mapped}
use Rattle.refusals.specs.Table.{argument, no_room, name_taken, loop}
use Rattle.refusals.proofs.Pick.{at_true, at_false}
use Rattle.edges.specs.declared.Edge.{Edge}
use Rattle.edges.specs.declared.There.{There}
use Rattle.edges.specs.Edges.{child_of, parent_of, has, chain, deepest, taken, there_of, edges_in, held}
use Rattle.edges.proofs.Laws.{there_few, there_missing}
use Rattle.soundness.specs.Sound.{all_fit, rooted, sound_edges, is_node_in}
use Rattle.soundness.specs.Steps.{Ends}
use Rattle.soundness.proofs.Chains.{fit_child, fit_top, up_rooted}
use Rattle.soundness.proofs.Rooted.{chain_first, chain_alone, chain_rest}
use Rattle.soundness.proofs.Sound.{sound_has}
use Rattle.soundness.proofs.Nodes.{node_held}
use Rattle.growth.specs.Growth.{is_name, is_new_path, room, front, last_id, may_insert, may_ensure, export_from, may_export}

-- ---- a name

pub no_name : (x : ℕ) → x ≡ 0 → ltb 0 x ≡ false
no_name x e = le-ltb 0 x (omega arith)

pub name : (x : ℕ) → (x ≡ 0 → ⊥) → ltb 0 x ≡ true
name x h = lt-ltb 0 x (omega (arith, h))

-- ---- a path

pub path_few : (path : List ℕ) → is_new_path path ≡ true → length path ≤ 4
path_few path h = leb-true _ _ ((and-eq-true_iff (leb (length path) 4) _).0 h).0

-- ---- room

module _ (n k : ℕ) where
  pub room_nodes : 1024 < n → false ≡ room n k
  unfolding room
  room_nodes h = rw (lt-leb n 1024 h)

  pub room_edges : n ≤ 1024 → leb k 2048 ≡ room n k
  unfolding room
  room_edges h = rw (le-leb n 1024 h)

pub room_has : (n k : ℕ) → room n k ≡ true → (n ≤ 1024) × (k ≤ 2048)
unfolding room
room_has n k h = let a = (and-eq-true_iff (leb n 1024) (leb k 2048)).0 h in (leb-true _ _ a.0, leb-true _ _ a.1)

-- what fits behind so many fits in all
pub fits_behind : (edges k : ℕ) → edges ≤ 2048 → leb k (2048 - edges) ≡ leb (edges + k) 2048
fits_behind edges k h = go (leb k (2048 - edges)) refl
  where
    go : (b : Bool) → leb k (2048 - edges) ≡ b → b ≡ leb (edges + k) 2048
    go true e = sym (le-leb (edges + k) 2048 (omega (arith, leb-true k (2048 - edges) e)))
    go false e = sym (lt-leb (edges + k) 2048 (omega (arith, leb-false k (2048 - edges) e)))

-- ---- a node on a chain

module _ (es : List Edge) (s : ℕ) (r : rooted es s ≡ true) where
  pub on_here : {x : ℕ} → s ≡ x → has x (chain es s) ≡ true
  unfolding has
  on_here e = rw ((chain_first es s r).1, eq-eqb _ _ e)

  pub on_up : {x p : ℕ} → parent_of es 0 ≡ None → (s ≡ x → ⊥) → parent_of es s ≡ Some p → has x (chain es s) ≡ has x (chain es p)
  unfolding has
  on_up top n e = rw ((chain_rest es s r top e).1, ne_eqb _ _ n)

  pub on_top : {x : ℕ} → (s ≡ x → ⊥) → parent_of es s ≡ None → has x (chain es s) ≡ false
  unfolding has
  on_top n e = rw (chain_alone es s r e, ne_eqb _ _ n)

-- ---- ensure_index

module _ (es : List Edge) (s : ℕ) (path : List ℕ) {t : There} (there : t ≡ there_of es s path) where
  pub depth_few : t.depth ≤ length path
  depth_few = omega (arith, ap (λ (u : There). u.depth) there, there_few es s path)

  there_node : t.node ≡ (deepest es s path).0
  unfolding there_of
  there_node = ap (λ (u : There). u.node) there

  -- what the code counts as missing
  pub so_many : length path - t.depth ≡ length (deepest es s path).1
  so_many = ap (λ (u : There). length path - u.depth) there ∙ there_missing es s path

-- the same node and depth in the edges of a sound table as in those that a look-up holds
pub there_held : (n k : ℕ) (links : List ℕ) (s : ℕ) (path : List ℕ) → is_node_in n k (edges_in links k) s ≡ true
    → {t : There} → t ≡ there_of (held links k) s path → t ≡ there_of (edges_in links k) s path
there_held n k links s path h there = there ∙ ap (λ (es : List Edge). there_of es s path) (node_held n k links s h)

module _ {A : Type 0} (n k : ℕ) (es : List Edge) (s : ℕ) (path : List ℕ) (a : A)
    (in_range_lem : (is_node_in n k es s && is_new_path path) ≡ true) {m : ℕ} (many : m ≡ length (deepest es s path).1) where
  same_room : let missing = length (deepest es s path).1 in room (n + m) (k + m) ≡ room (n + missing) (k + missing)
  same_room = ap (λ (j : ℕ). room (n + j) (k + j)) many

  pub ensure_full : room (n + m) (k + m) ≡ false → Refused no_room ≡ may_ensure n k es s path a
  ensure_full h = at_false _ _ (sym same_room ∙ h) ∙ at_true _ _ in_range_lem

  pub ensure_done : room (n + m) (k + m) ≡ true → Done a ≡ may_ensure n k es s path a
  ensure_done h = at_true _ _ (sym same_room ∙ h) ∙ at_true _ _ in_range_lem

-- ---- export

-- the deepest node of a path that is there is a node
deepest_node : (es : List Edge) (n s : ℕ) (path : List ℕ) → all_fit n es ≡ true → s < n → (deepest es s path).0 < n
unfolding deepest
deepest_node es n s [] ok l = l
deepest_node es n s (x ∷ path) ok l = go (λ c. deepest_node es n c path ok) (child_of es s x) refl
  where
    go : ((c : ℕ) → c < n → (deepest es c path).0 < n) → (f : Option ℕ) → child_of es s x ≡ f → (deepest es s (x ∷ path)).0 < n
    go ih None e = rw e l
    go ih (Some c) e = rw e (ih c (fit_child es n s x c ok e))

-- a table with the node s: the chain of the deepest node below s ends at the root
pub deepest_ends : (n k : ℕ) (links : List ℕ) (s : ℕ) (path : List ℕ) → is_node_in n k (edges_in links k) s ≡ true
    → {t : There} → t ≡ there_of (held links k) s path → Ends (held links k) t.node
unfolding there_of
deepest_ends n k links s path h {t} there =
    let es : List Edge = edges_in links k in
    let a = (and-eq-true_iff (sound_edges n k es) (ltb s n)).0 h in
    let b = sound_has n k es a.0 in
    let node : ℕ = (deepest es s path).0 in
    let below = deepest_node es n s path b.fit (ltb-true s n a.1) in
    let way = b.way node below in
    let ends : Ends es node = (fit_top es n b.fit, up_rooted es n way.0 node b.fit b.few_nodes below way.1) in
    let same = node_held n k links s h in
    let is : t.node ≡ node = ap (λ (u : There). u.node) there ∙ ap (λ (fs : List Edge). (deepest fs s path).0) same in
    subst (λ (fs : List Edge). Ends fs t.node) (sym same) (subst (λ (j : ℕ). Ends es j) (sym is) ends)

module _ {A : Type 0} (n k : ℕ) (es : List Edge) (node at missing x : ℕ) (a : A) where
  pub export_loop : has node (chain es at) ≡ true → Refused loop ≡ export_from n k es node at missing x a
  unfolding export_from
  export_loop h = at_true _ _ h

  module _ (off : has node (chain es at) ≡ false) where
    pub export_taken : (eqb missing 0 && taken es at x node) ≡ true → Refused name_taken ≡ export_from n k es node at missing x a
    unfolding export_from
    export_taken h = at_true _ _ h ∙ at_false _ _ off

    module _ (free : (eqb missing 0 && taken es at x node) ≡ false) where
      pub export_full : room (n + missing) (k + (missing + 1)) ≡ false → Refused no_room ≡ export_from n k es node at missing x a
      unfolding export_from
      export_full h = at_false _ _ h ∙ at_false _ _ free ∙ at_false _ _ off

      pub export_done : room (n + missing) (k + (missing + 1)) ≡ true → Done a ≡ export_from n k es node at missing x a
      unfolding export_from
      export_done h = at_true _ _ h ∙ at_false _ _ free ∙ at_false _ _ off

-- the front of a path as the part from 0 on
pub front_few : (path : List ℕ) {d : ℕ} → d ≤ length (take (length path - 1 - 0) path) → d ≤ length path - 1
front_few path h = omega (arith, length-take-le (length path - 1 - 0) path (omega arith))

-- what export tests behind its first tests, from the deepest node of the path's front
pub export_on : (n k : ℕ) (links : List ℕ) (node s : ℕ) (path : List ℕ) {t : There}
    → t ≡ there_of (held links k) s (take (length path - 1 - 0) path) → held links k ≡ edges_in links k
    → let es = edges_in links k in
    (is_node_in n k es s && is_node_in n k es node && is_new_path path && ltb 0 (length path)) ≡ true
    → export_from n k (held links k) node t.node (length path - 1 - t.depth) (last_id path) t
    ≡ may_export n k es node s path (there_of es s (front path))
export_on n k links node s path {t} there same in_range_lem =
    let es : List Edge = edges_in links k in
    let all : length path - 1 - 0 ≡ length path - 1 = omega arith in
    let is : t ≡ there_of es s (front path) = there ∙ (λ i. there_of (same i) s (take (all i) path)) in
    let long : length (front path) ≡ length path - 1 = length-take-le (length path - 1) path (omega arith) in
    let many : length path - 1 - t.depth ≡ length (deepest es s (front path)).1 =
    ap (λ (j : ℕ). j - t.depth) (sym long) ∙ so_many es s (front path) is in
    (λ i. export_from n k (same i) node (there_node es s (front path) is i) (many i) (last_id path) (is i)) ∙ at_true _ _ in_range_lem

-- ---- what a test is handed, it gives back

module _ {A B : Type 0} (a : A) (b : B) where
  -- two tests, and four: another thing that is handed in comes back in its place
  two : (p q : Bool) (l m : ℕ)
      → pick p (pick q (Done b) (Refused m)) (Refused l) ≡ mapped (λ _. b) (pick p (pick q (Done a) (Refused m)) (Refused l))
  two true true l m = refl
  two true false l m = refl
  two false q l m = refl

  four : (p q r t : Bool) (l m n o : ℕ)
      → pick p (pick q (Refused m) (pick r (Refused n) (pick t (Done b) (Refused o)))) (Refused l)
      ≡ mapped (λ _. b) (pick p (pick q (Refused m) (pick r (Refused n) (pick t (Done a) (Refused o)))) (Refused l))
  four true true r t l m n o = refl
  four true false true t l m n o = refl
  four true false false true l m n o = refl
  four true false false false l m n o = refl
  four false q r t l m n o = refl

  module _ (n k : ℕ) (es : List Edge) where
    pub insert_other : (s x : ℕ) → may_insert n k es s x b ≡ mapped (λ _. b) (may_insert n k es s x a)
    insert_other s x = two (is_node_in n k es s && is_name x) (room (n + 1) (k + 1)) argument no_room

    pub ensure_other : (s : ℕ) (path : List ℕ) → may_ensure n k es s path b ≡ mapped (λ _. b) (may_ensure n k es s path a)
    ensure_other s path =
        let missing : ℕ = length (deepest es s path).1 in
        two (is_node_in n k es s && is_new_path path) (room (n + missing) (k + missing)) argument no_room

    pub export_other : (node s : ℕ) (path : List ℕ) → may_export n k es node s path b ≡ mapped (λ _. b) (may_export n k es node s path a)
    unfolding export_from
    export_other node s path =
        let there : ℕ × List ℕ = deepest es s (front path) in
        let missing : ℕ = length there.1 in
        four (is_node_in n k es s && is_node_in n k es node && is_new_path path && ltb 0 (length path)) (has node (chain es there.0))
        (eqb missing 0 && taken es there.0 (last_id path) node) (room (n + missing) (k + (missing + 1)))
        argument loop name_taken no_room
