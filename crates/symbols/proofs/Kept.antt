-- What a build that begins with `new` may rely on: a table that a call gives is sound, and what the call made is found.
-- Assumes nothing.
use Rattle.std.specs.Prelude.{Option, None, Some}
use mathlib.Core.Bool.{Bool, true, false, not, ◌&&◌, and-eq-true_iff}
use mathlib.Core.Path.{◌≡◌, refl, sym, ap, ◌∙◌, subst}
use mathlib.Core.List.{List, [], ◌∷◌}
use Prim.Native.Nat.{ℕ, zero, suc, ◌+◌, ◌-◌, ◌<◌}
use native.Mathlib.Omega.{arith}
use lib.Dec.{eqb, ltb}
use lib.IntN.{ℤ}
use lib.ListN.{length, length-replicate}
use lib.Seq.{get_or-set_same}
use borrow.Author.Tests.{le-leb, ltb-true, lt-ltb, eqb-true, eq-eqb, not-true, not-false}
use Rattle.refusals.specs.Answer.{Done, pick}
use Rattle.refusals.specs.Table.{argument, no_room, name_taken, loop}
use Rattle.refusals.proofs.Never.{never}
use Rattle.refusals.proofs.Pick.{done_passed, done_missed, done_value}
use Rattle.edges.specs.declared.Edge.{Edge}
use Rattle.symbols.specs.declared.SymbolTable.{SymbolTable}
use Rattle.edges.specs.Edges.{is_path, found, child_of, parent_of, step_of, walk_of, has, chain, chain_of, query_on, query_of, deepest, taken, elsewhere, edges_in}
use Rattle.soundness.specs.Sound.{all_fit, all_below, rooted, sound_edges}
use Rattle.scopes.specs.Scopes.{query_in, query_edges}
use Rattle.growth.specs.Growth.{is_name, is_new_path, room, front, last_id, export_from}
use Rattle.symbols.specs.Symbols.{edges_of, new, sound, is_node, number_at, with_data, with_edge, with_node, inserted, grown, get, insert, update_data, query, ensure_index, exported, export}
use Rattle.growth.proofs.Laws.{room_has}
use Rattle.soundness.proofs.Sound.{sound_has, sound_is}
use Rattle.soundness.proofs.Chains.{Up, Off, has_off, fit_parent, fit_child}
use Rattle.symbols.proofs.Growing.{Deepest, Grown, Holds, Place, Sound, child_new, deepest_is, edge_sound, edges_added, either_not, get_or_not, grown_is, holds_edge, inserted_child, inserted_sound, lengths, lengths_data, lengths_edge, lengths_inserted, path_ends, take_not, walk_append, walk_on}

-- ---- what an accepted call had

pub node_is : (t : SymbolTable) (s : ℕ) → is_node t s ≡ true → Sound t × (s < t.nodes)
node_is t s h =
    let a = (and-eq-true_iff (sound t) (ltb s t.nodes)).0 h in
    (sound_has t.nodes t.edges (edges_of t) a.0, ltb-true _ _ a.1)

names_are : (path : List ℕ) → is_new_path path ≡ true → has 0 path ≡ false
names_are path h = not-true _ ((and-eq-true_iff (is_path path) (not (has 0 path))).0 h).1

pub insert_has : (t : SymbolTable) (s x : ℕ) (d : Option ℤ) {u : SymbolTable × ℕ}
    → insert t s x d ≡ Done u → length t.links ≡ 6144 → Place t s x × ((inserted t s x d, t.nodes) ≡ u)
unfolding insert
insert_has t s x d e size =
    let a = done_passed (is_node t s && is_name x) _ argument e in
    let b = done_passed (room (t.nodes + 1) (t.edges + 1)) (Done (inserted t s x d, t.nodes)) no_room a.1 in
    let c = (and-eq-true_iff (is_node t s) (is_name x)).0 a.0 in
    let node = node_is t s c.0 in
    let free = room_has _ _ b.0 in
    let place : Place t s x = record {
      is_sound = node.0;
      size = size;
      node = node.1;
      name = ltb-true 0 x c.1;
      nodes = omega arith;
      edges = omega arith;
    } in
    (place, done_value b.1)

update_has : (t : SymbolTable) (s : ℕ) (d : Option ℤ) {u : SymbolTable}
    → update_data t s d ≡ Done u → (sound t ≡ true) × (s < t.nodes) × (with_data t s d ≡ u)
unfolding update_data
update_has t s d e =
    let a = done_passed (is_node t s) (Done (with_data t s d)) argument e in
    let b = (and-eq-true_iff (sound t) (ltb s t.nodes)).0 a.0 in
    (b.0, ltb-true _ _ b.1, done_value a.1)

pub ensure_has : (t : SymbolTable) (s : ℕ) (path : List ℕ) {u : SymbolTable × ℕ}
    → ensure_index t s path ≡ Done u → length t.links ≡ 6144
    → let there = deepest (edges_of t) s path in
    Deepest t.nodes (edges_of t) s path there.0 there.1 × Grown t there.0 there.1 u.0 u.1
unfolding ensure_index
ensure_has t s path {u} e size =
    let there : ℕ × List ℕ = deepest (edges_of t) s path in
    let missing : ℕ = length there.1 in
    let a = done_passed (is_node t s && is_new_path path) _ argument e in
    let b = done_passed (room (t.nodes + missing) (t.edges + missing)) (Done (grown t there.0 there.1)) no_room a.1 in
    let c = (and-eq-true_iff (is_node t s) (is_new_path path)).0 a.0 in
    let node = node_is t s c.0 in
    let free = room_has _ _ b.0 in
    let d = deepest_is (edges_of t) t.nodes s path node.0.fit node.1 (names_are path c.1) in
    let g = grown_is there.1 t there.0 node.0 size d.node d.names d.missing free.0 free.1 in
    (d, subst (λ (v : SymbolTable × ℕ). Grown t there.0 there.1 v.0 v.1) (done_value b.1) g)

-- a name that is not taken means no other node than n
not_taken : (es : List Edge) (s x n c : ℕ) → taken es s x n ≡ false → child_of es s x ≡ Some c → c ≡ n
unfolding taken elsewhere child_of
not_taken [] s x n c h e = never (cc)
not_taken (d ∷ es) s x n c h e = go (not_taken es s x n c) (eqb d.from s && eqb d.id x) refl
  where
    go : (taken es s x n ≡ false → child_of es s x ≡ Some c → c ≡ n)
        → (b : Bool) → (eqb d.from s && eqb d.id x) ≡ b → c ≡ n
    go ih true q =
        let a : not (eqb d.to n) ≡ false = rw q at (either_not (elsewhere s x n d) (taken es s x n) h).0 in
        let here : Some d.to ≡ Some c = rw q at e in
        let end = eqb-true d.to n (not-false _ a) in
        cc
    go ih false q = ih (either_not (elsewhere s x n d) (taken es s x n) h).1 (rw q at e)

-- the path to where the new edge leaves leads to d but for the names xs; these are made and give the table v and the node f
record Exported (t : SymbolTable) (n s : ℕ) (path : List ℕ) (d : ℕ) (xs : List ℕ) (v : SymbolTable) (f : ℕ) : Type 0 where
  there : Deepest t.nodes (edges_of t) s (front path) d xs
  made : Grown t d xs v f
  some_id : 0 < length path
  name : 0 < last_id path
  node : n < t.nodes
  below_root : 0 < n
  off : Off (edges_of t) d n
  same : (c : ℕ) → child_of (edges_of v) f (last_id path) ≡ Some c → c ≡ n
  free : v.edges < 2048

-- the last edge
module _
    {t : SymbolTable} {n s : ℕ} {path : List ℕ} {d : ℕ} {xs : List ℕ} {v : SymbolTable} {f : ℕ}
    (h : Exported t n s path d xs v f) (size : length t.links ≡ 6144) where
  last : Edge
  last = record { from = f; id = last_id path; to = n }

  made_size : length v.links ≡ 6144
  made_size = ap (λ l. l.0) h.made.same_lengths ∙ size

  edges_exported : edges_of (with_edge v f (last_id path) n) ≡ last ∷ edges_of v
  unfolding last
  edges_exported = edges_added v f (last_id path) n made_size h.free

  exported_lengths : lengths (with_edge v f (last_id path) n) ≡ lengths t
  exported_lengths = lengths_edge v f (last_id path) n made_size h.free ∙ h.made.same_lengths

  exported_sound : sound (with_edge v f (last_id path) n) ≡ true
  unfolding with_edge last
  exported_sound =
      let g = h.made in
      ap (sound_edges v.nodes (v.edges + 1)) edges_exported
      ∙ sound_is v.nodes (v.edges + 1) (last ∷ edges_of v)
      (edge_sound last (edges_of v) v.nodes v.nodes v.edges g.is_sound
      (omega arith) g.is_sound.few_nodes h.free g.node (omega arith) h.below_root h.name
      (λ i l q. l) (g.off n h.node h.off))

  exported_walk : walk_of (edges_of (with_edge v f (last_id path) n)) path s ≡ Some n
  unfolding walk_of last
  exported_walk =
      let fs : List Edge = last ∷ edges_of v in
      let on : Holds (edges_of v) fs = holds_edge last (edges_of v) h.same in
      let to-there = h.there.walk fs (λ a x c e. on a x c (h.made.holds a x c e)) ∙ h.made.walk fs on in
      rw edges_exported
      (ap (λ (l : List ℕ). walk_of fs l s) (sym (path_ends path h.some_id))
      ∙ walk_append fs (front path) (last_id path ∷ []) s f to-there
      ∙ walk_on fs f (last_id path) [] n (λ q. omega arith) (child_new last (edges_of v)))

export_has : (t : SymbolTable) (n s : ℕ) (path : List ℕ) {u : SymbolTable}
    → export t n s path ≡ Done u → length t.links ≡ 6144
    → let there = deepest (edges_of t) s (front path) in
    let made = grown t there.0 there.1 in
    Exported t n s path there.0 there.1 made.0 made.1 × (with_edge made.0 made.1 (last_id path) n ≡ u)
unfolding export export_from exported
export_has t n s path e size =
    let es : List Edge = edges_of t in
    let x : ℕ = last_id path in
    let there : ℕ × List ℕ = deepest es s (front path) in
    let made : SymbolTable × ℕ = grown t there.0 there.1 in
    let missing : ℕ = length there.1 in
    let u : SymbolTable = with_edge made.0 made.1 x n in
    let a = done_passed (is_node t s && is_node t n && is_new_path path && ltb 0 (length path)) _ argument e in
    let b = done_missed (has n (chain es there.0)) _ loop a.1 in
    let c = done_missed (eqb missing 0 && taken es there.0 x n) _ name_taken b.1 in
    let d = done_passed (room (t.nodes + missing) (t.edges + (missing + 1))) (Done u) no_room c.1 in
    let a₁ = (and-eq-true_iff (is_node t s && is_node t n && is_new_path path) (ltb 0 (length path))).0 a.0 in
    let a₂ = (and-eq-true_iff (is_node t s && is_node t n) (is_new_path path)).0 a₁.0 in
    let a₃ = (and-eq-true_iff (is_node t s) (is_node t n)).0 a₂.0 in
    let scope = node_is t s a₃.0 in
    let names = names_are path a₂.1 in
    let free = room_has _ _ d.0 in
    let long : 0 < length path = ltb-true _ _ a₁.1 in
    let first = deepest_is es t.nodes s (front path) scope.0.fit scope.1 (take_not 0 (length path - 1) path names) in
    let rest = grown_is there.1 t there.0 scope.0 size
    first.node first.names first.missing free.0 (omega arith) in
    let way = scope.0.way there.0 first.node in
    let off : Off es there.0 n = has_off es t.nodes way.0 there.0 n
    scope.0.fit scope.0.few_nodes first.node way.1 b.0 in
    let above : n ≡ 0 → ⊥ = λ q. off way.0 (subst (λ (z : ℕ). Up es way.0 there.0 z) (sym q) way.1) in (
      record {
        there = first;
        made = rest;
        some_id = long;
        name = omega (arith, get_or_not 0 path (length path - 1) names (omega arith));
        node = (node_is t n a₃.1).1;
        below_root = omega (arith, above);
        off = off;
        same = λ y h.
            let below = rest.below x y h in
            not_taken es there.0 x n y (rw (eq-eqb missing 0 below.0) at c.0) below.1;
        free = omega (arith, rest.edges);
      },
      done_value d.1,
    )

-- ---- a table that a call gives is sound, its lists are as long as they were, and what the call made is found

pub sound_table : (t : SymbolTable) → Sound t → sound t ≡ true
sound_table t h = sound_is t.nodes t.edges (edges_of t) h

pub new_sound : sound new ≡ true
unfolding new sound_edges edges_in all_fit all_below rooted has chain chain_of parent_of
new_sound = refl

pub new_lengths : lengths new ≡ (6144, 1024)
unfolding new
new_lengths = simp length-replicate

module _
    (t : SymbolTable) (s x : ℕ) (d : Option ℤ) {u : SymbolTable × ℕ}
    (e : insert t s x d ≡ Done u) (size : length t.links ≡ 6144) where
  pub insert_sound : sound u.0 ≡ true
  insert_sound =
      let a = insert_has t s x d e size in
      subst (λ (v : SymbolTable × ℕ). sound v.0 ≡ true) a.1
      (sound_table (inserted t s x d) (inserted_sound t s x d a.0))

  pub insert_lengths : lengths u.0 ≡ lengths t
  insert_lengths =
      let a = insert_has t s x d e size in
      ap (λ (v : SymbolTable × ℕ). lengths v.0) (sym a.1) ∙ lengths_inserted t s x d a.0

  pub inserted_found : child_of (edges_of u.0) s x ≡ Some u.1
  inserted_found =
      let a = insert_has t s x d e size in
      subst (λ (v : SymbolTable × ℕ). child_of (edges_of v.0) s x ≡ Some v.1) a.1 (inserted_child t s x d a.0)

module _ (t : SymbolTable) (s : ℕ) (d : Option ℤ) {u : SymbolTable} (e : update_data t s d ≡ Done u) where
  pub update_sound : sound u ≡ true
  unfolding with_data
  update_sound = let a = update_has t s d e in subst (λ (v : SymbolTable). sound v ≡ true) a.2 a.0

  pub update_lengths : lengths u ≡ lengths t
  update_lengths = let a = update_has t s d e in ap lengths (sym a.2) ∙ lengths_data t s d

module _
    (t : SymbolTable) (s : ℕ) (path : List ℕ) {u : SymbolTable × ℕ}
    (e : ensure_index t s path ≡ Done u) (size : length t.links ≡ 6144) where
  pub ensure_sound : sound u.0 ≡ true
  ensure_sound = sound_table u.0 (ensure_has t s path e size).1.is_sound

  pub ensure_lengths : lengths u.0 ≡ lengths t
  ensure_lengths = (ensure_has t s path e size).1.same_lengths

  pub ensured_found : walk_of (edges_of u.0) path s ≡ Some u.1
  ensured_found =
      let a = ensure_has t s path e size in
      let es : List Edge = edges_of u.0 in
      a.0.walk es a.1.holds ∙ a.1.walk es (λ s x c e. e)

module _
    (t : SymbolTable) (n s : ℕ) (path : List ℕ) {u : SymbolTable}
    (e : export t n s path ≡ Done u) (size : length t.links ≡ 6144) where
  pub export_sound : sound u ≡ true
  export_sound =
      let a = export_has t n s path e size in
      subst (λ (v : SymbolTable). sound v ≡ true) a.1 (exported_sound a.0 size)

  pub export_lengths : lengths u ≡ lengths t
  export_lengths =
      let a = export_has t n s path e size in
      ap lengths (sym a.1) ∙ exported_lengths a.0 size

  pub exported_found : walk_of (edges_of u) path s ≡ Some n
  exported_found =
      let a = export_has t n s path e size in
      ap (λ (v : SymbolTable). walk_of (edges_of v) path s) (sym a.1) ∙ exported_walk a.0 size

-- ---- a number that a call gives a node is read back

get_is : (t : SymbolTable) (s : ℕ) (d : Option ℤ) → sound t ≡ true → s < t.nodes
    → number_at t.numbers s ≡ d → get t s ≡ Done d
unfolding get
get_is t s d h l e = rw (h, lt-ltb s t.nodes l, e)

module _ (t : SymbolTable) (s : ℕ) (d : Option ℤ) (many : length t.numbers ≡ 1024) where
  pub updated_read : {u : SymbolTable} → update_data t s d ≡ Done u → get u s ≡ Done d
  unfolding with_data
  updated_read e =
      let a = update_has t s d e in
      let few = (sound_has t.nodes t.edges (edges_of t) a.0).few_nodes in
      subst (λ (v : SymbolTable). get v s ≡ Done d) a.2
      (get_is (with_data t s d) s d a.0 a.1 (get_or-set_same t.numbers s d None (omega arith)))

  pub inserted_read : (x : ℕ) {u : SymbolTable × ℕ} → insert t s x d ≡ Done u → length t.links ≡ 6144
      → get u.0 u.1 ≡ Done d
  unfolding with_edge with_node
  inserted_read x e size =
      let a = insert_has t s x d e size in
      let h = inserted_sound t s x d a.0 in
      subst (λ (v : SymbolTable × ℕ). get v.0 v.1 ≡ Done d) a.1
      (get_is (inserted t s x d) t.nodes d (sound_table (inserted t s x d) h) (omega arith)
      (get_or-set_same t.numbers t.nodes d None (omega arith)))

-- ---- what is lent is asked as the table is

pub query_lent : (t : SymbolTable) (s : ℕ) (path : List ℕ) → is_node t s ≡ true → query_edges t.links t.edges s path ≡ query t s path
unfolding query query_in query_edges
query_lent t s path h = rw (h, le-leb _ _ (node_is t s h).0.few_edges)

-- ---- what is found is a node

module _ (es : List Edge) (n : ℕ) (fit : all_fit n es ≡ true) where
  step_node : (s x : ℕ) {m : ℕ} → step_of es s x ≡ Some m → m < n
  unfolding step_of
  step_node s x {m} e = go (eqb x 0) e
    where
      go : (b : Bool) → pick b (parent_of es s) (child_of es s x) ≡ Some m → m < n
      go true e = fit_parent es n s m fit e
      go false e = fit_child es n s x m fit e

  walk_node : (path : List ℕ) (s : ℕ) {m : ℕ} → s < n → walk_of es path s ≡ Some m → m < n
  unfolding walk_of
  walk_node [] s {m} h e = let q : s ≡ m = cc in omega arith
  walk_node (x ∷ xs) s {m} h e = go (step_of es s x) refl e (λ t l. walk_node xs t l)
    where
      go : (r : Option ℕ) → step_of es s x ≡ r → found r None (λ t. walk_of es xs t) ≡ Some m
          → ((t : ℕ) → t < n → walk_of es xs t ≡ Some m → m < n) → m < n
      go None p e f = never (cc)
      go (Some t) p e f = f t (step_node s x p) e

  query_on_node : (k s : ℕ) (path : List ℕ) {m : ℕ} → s < n → query_on es path (chain_of es k s) ≡ Some m → m < n
  unfolding query_on chain_of
  query_on_node zero s path h e = never (cc)
  query_on_node (suc k) s path {m} h e = go (walk_of es path s) refl (has 0 path) (parent_of es s) refl e (λ u l. query_on_node k u path l)
    where
      go : (w : Option ℕ) → walk_of es path s ≡ w → (b : Bool) (p : Option ℕ) → parent_of es s ≡ p
          → found w (pick b None (query_on es path (found p [] (λ u. chain_of es k u)))) Some ≡ Some m
          → ((u : ℕ) → u < n → query_on es path (chain_of es k u) ≡ Some m → m < n) → m < n
      go (Some t) pw b p pp e f = let q : t ≡ m = cc in walk_node path s h (pw ∙ ap Some q)
      go None pw true p pp e f = never (cc)
      go None pw false None pp e f = never (cc)
      go None pw false (Some u) pp e f = f u (fit_parent es n s u fit pp) e

pub query_node : (t : SymbolTable) (s : ℕ) (path : List ℕ) {m : ℕ} → is_node t s ≡ true → query_of (edges_of t) s path ≡ Some m → m < t.nodes
unfolding query_of chain
query_node t s path h e = let a = node_is t s h in query_on_node (edges_of t) t.nodes a.0.fit 1024 s path a.1 e
