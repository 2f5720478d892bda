-- The definitions of export and ensure_index beside the paper's and the Rust's words. Assumes nothing.
use Rattle.std.specs.Prelude.{None, Some}
use mathlib.Core.Bool.{Bool, true, false, not, ◌&&◌, and-eq-true_iff}
use mathlib.Core.Path.{◌≡◌, refl, sym, ap, ◌∙◌}
use mathlib.Core.List.{List, [], ◌∷◌}
use Prim.Native.Nat.{ℕ, ◌+◌, ◌<◌, ◌≤◌}
use native.Mathlib.Omega.{arith}
use lib.Dec.{eqb, ltb}
use lib.ListN.{length}
use borrow.Author.Tests.{lt-ltb, le-leb, leb-true, ne_eqb, not-true}
use Rattle.refusals.specs.Answer.{Done, Refused, pick}
use Rattle.refusals.specs.Table.{argument, no_room, name_taken, loop}
use Rattle.refusals.proofs.Never.{never}
use Rattle.refusals.proofs.Pick.{at_true, at_false, done_passed, done_value}
use Rattle.edges.specs.declared.Edge.{Edge}
use Rattle.symbols.specs.declared.SymbolTable.{SymbolTable}
use Rattle.edges.specs.Edges.{is_path, child_of, has, chain, deepest, elsewhere, taken}
use Rattle.growth.specs.Growth.{is_name, is_new_path, room, of_room, front, last_id, export_from}
use Rattle.symbols.specs.Symbols.{edges_of, is_node, with_edge, with_node, inserted, grown, insert, ensure_index, exported, export}
use Rattle.growth.proofs.Laws.{room_has}
use Rattle.soundness.proofs.Chains.{fit_child, Off, has_up, has_off}
use Rattle.symbols.proofs.Growing.{Sound, Missing, all_missing, has_not, inserted_sound, inserted_childless, Grown}
use Rattle.symbols.proofs.Kept.{node_is, insert_has, ensure_has, sound_table}

-- ---- export in the table in which the missing nodes have been made

-- nodes of two sound tables: if m is off the one's way up exactly where it is off the other's, the test of the chains is one
has_same : (t u : SymbolTable) (s r m : ℕ) → Sound t → Sound u → s < t.nodes → r < u.nodes
    → (Off (edges_of t) s m → Off (edges_of u) r m) → (Off (edges_of u) r m → Off (edges_of t) s m)
    → has m (chain (edges_of t) s) ≡ has m (chain (edges_of u) r)
unfolding chain
has_same t u s r m h k l b there back = go (has m (chain (edges_of t) s)) (has m (chain (edges_of u) r)) refl refl
  where
    without : (v : SymbolTable) (z : ℕ) → Sound v → z < v.nodes → has m (chain (edges_of v) z) ≡ false → Off (edges_of v) z m
    without v z g i e =
        let way = g.way z i in
        has_off (edges_of v) v.nodes way.0 z m g.fit g.few_nodes i way.1 e

    go : (x y : Bool) → has m (chain (edges_of t) s) ≡ x → has m (chain (edges_of u) r) ≡ y → x ≡ y
    go true true p q = refl
    go true false p q = let w = has_up (edges_of t) 1024 s m p in absurd (back (without u r k b q) w.0 w.1)
    go false true p q = let w = has_up (edges_of u) 1024 r m q in absurd (there (without t s h l p) w.0 w.1)
    go false false p q = refl

-- a name that means nothing is not taken
none_taken : (es : List Edge) (s x n : ℕ) → ((c : ℕ) → child_of es s x ≡ Some c → ⊥) → taken es s x n ≡ false
unfolding taken elsewhere child_of
none_taken [] s x n h = refl
none_taken (e ∷ es) s x n h = go (none_taken es s x n) (eqb e.from s && eqb e.id x) refl
  where
    go : (((c : ℕ) → child_of es s x ≡ Some c → ⊥) → taken es s x n ≡ false)
        → (b : Bool) → (eqb e.from s && eqb e.id x) ≡ b → taken (e ∷ es) s x n ≡ false
    go ih true q = absurd (h e.to (rw q))
    go ih false q = rw q (ih (λ c k. h c (rw q k)))

-- a node that was made has no edge yet, so no name is taken there
taken_grown : (t : SymbolTable) (s : ℕ) (xs : List ℕ) {u : SymbolTable × ℕ} → grown t s xs ≡ u → Grown t s xs u.0 u.1
    → (x n : ℕ) → (eqb (length xs) 0 && taken (edges_of t) s x n) ≡ taken (edges_of u.0) u.1 x n
unfolding grown
taken_grown t s [] is g x n = ap (λ (v : SymbolTable × ℕ). taken (edges_of v.0) v.1 x n) is
taken_grown t s (y ∷ ys) {u} is g x n =
    rw (ne_eqb (length (y ∷ ys)) 0 (λ e. omega arith))
    (sym (none_taken (edges_of u.0) u.1 x n (λ c e. omega (arith, (g.below x c e).0))))

-- the table that ensure_index gives is the grown one
ensure_grown : (t : SymbolTable) (s : ℕ) (path : List ℕ) {u : SymbolTable × ℕ} → ensure_index t s path ≡ Done u
    → let there = deepest (edges_of t) s path in grown t there.0 there.1 ≡ u
unfolding ensure_index
ensure_grown t s path e =
    let there : ℕ × List ℕ = deepest (edges_of t) s path in
    let missing : ℕ = length there.1 in
    let a = done_passed (is_node t s && is_new_path path) _ argument e in
    done_value (done_passed (room (t.nodes + missing) (t.edges + missing)) (Done (grown t there.0 there.1)) no_room a.1).1

-- where the path nodes can be made: "Export makes missing path nodes, then refuses (3) if any edge of that name there leads to
-- another node, else adds an edge"; and before 3 it "refuses (4) if the exported node is the node the edge would leave, or on
-- that node's chain to the root"
pub export_words : (t : SymbolTable) (n s : ℕ) (path : List ℕ) {u : SymbolTable × ℕ} → length t.links ≡ 6144
    → ensure_index t s (front path) ≡ Done u
    → (is_node t s && is_node t n && is_new_path path && ltb 0 (length path)) ≡ true
    → export t n s path
    ≡ pick (has n (chain (edges_of u.0) u.1)) (Refused loop)
    (pick (taken (edges_of u.0) u.1 (last_id path) n) (Refused name_taken)
    (of_room u.0.nodes u.0.edges 0 1 (with_edge u.0 u.1 (last_id path) n)))
unfolding export export_from exported
export_words t n s path {u} size e ok =
    let there : ℕ × List ℕ = deepest (edges_of t) s (front path) in
    let missing : ℕ = length there.1 in
    let x : ℕ = last_id path in
    let both = ((and-eq-true_iff (is_node t s && is_node t n && is_new_path path) (ltb 0 (length path))).0 ok).0 in
    let nodes = ((and-eq-true_iff (is_node t s && is_node t n) (is_new_path path)).0 both).0 in
    let a = node_is t n ((and-eq-true_iff (is_node t s) (is_node t n)).0 nodes).1 in
    let is = ensure_grown t s (front path) e in
    let made = ensure_has t s (front path) e size in
    let g = made.1 in
    let chains = has_same t u.0 there.0 u.1 n a.0 g.is_sound made.0.node g.node (g.off n a.1) (g.on n) in
    let names = taken_grown t there.0 there.1 is g x n in
    let more-nodes : t.nodes + missing ≡ u.0.nodes + 0 = omega (arith, g.nodes) in
    let more_edges : t.edges + (missing + 1) ≡ u.0.edges + 1 = omega (arith, g.edges) in
    sym (at_true _ _ ok)
    ∙ (λ i. pick (chains i) (Refused loop)
    (pick (names i) (Refused name_taken)
    (pick (room (more-nodes i) (more_edges i)) (Done (with_edge (is i).0 (is i).1 x n)) (Refused no_room))))

-- without room for some there is none for more
no_room_lem : (n k m l : ℕ) → n ≤ m → k ≤ l → room n k ≡ false → room m l ≡ false
unfolding room
no_room_lem n k m l nodes edges e = go (room m l) refl
  where
    go : (b : Bool) → room m l ≡ b → room m l ≡ false
    go true q =
        let free = room_has m l q in
        let fits : room n k ≡ true = rw (le-leb n 1024 (omega arith), le-leb k 2048 (omega arith)) in
        never (cc)
    go false q = q

-- a sound table has room for itself
fits_as_it_is : (t : SymbolTable) (m : ℕ) → Sound t → m ≡ 0 → room (t.nodes + m) (t.edges + m) ≡ false → ⊥
unfolding room
fits_as_it_is t m h e full =
    let nodes = le-leb (t.nodes + m) 1024 (omega (arith, h.few_nodes)) in
    let edges = le-leb (t.edges + m) 2048 (omega (arith, h.few_edges)) in
    let fits : room (t.nodes + m) (t.edges + m) ≡ true = rw (nodes, edges) in
    never (cc)

-- where they do not fit: 4 all the same if the node is on the chain of where they would be made, else 2
pub export_no_room : (t : SymbolTable) (n s : ℕ) (path : List ℕ)
    → let there = deepest (edges_of t) s (front path) in
    room (t.nodes + length there.1) (t.edges + length there.1) ≡ false
    → (is_node t s && is_node t n && is_new_path path && ltb 0 (length path)) ≡ true
    → export t n s path ≡ pick (has n (chain (edges_of t) there.0)) (Refused loop) (Refused no_room)
unfolding export export_from
export_no_room t n s path full ok =
    let there : ℕ × List ℕ = deepest (edges_of t) s (front path) in
    let missing : ℕ = length there.1 in
    let both = ((and-eq-true_iff (is_node t s && is_node t n && is_new_path path) (ltb 0 (length path))).0 ok).0 in
    let nodes = ((and-eq-true_iff (is_node t s && is_node t n) (is_new_path path)).0 both).0 in
    let a = (node_is t s ((and-eq-true_iff (is_node t s) (is_node t n)).0 nodes).0).0 in
    let some-missing : missing ≡ 0 → ⊥ = λ e. fits_as_it_is t missing a e full in
    let not_taken : (eqb missing 0 && taken (edges_of t) there.0 (last_id path) n) ≡ false = rw (ne_eqb missing 0 some-missing) in
    let no_edge : room (t.nodes + missing) (t.edges + (missing + 1)) ≡ false = no_room_lem _ _ _ _ (omega arith) (omega arith) full in
    sym (at_true _ _ ok)
    ∙ ap (pick (has n (chain (edges_of t) there.0)) (Refused loop)) (sym (at_false _ _ no_edge ∙ at_false _ _ not_taken))

-- ---- ensure_index id by id

-- behind the test of its arguments, from what is there of the path
ensure_from : (t : SymbolTable) (s : ℕ) (path : List ℕ) (there : ℕ × List ℕ) → (is_node t s && is_new_path path) ≡ true
    → deepest (edges_of t) s path ≡ there
    → ensure_index t s path ≡ of_room t.nodes t.edges (length there.1) (length there.1) (grown t there.0 there.1)
unfolding ensure_index
ensure_from t s path there ok is =
    sym (at_true _ _ ok)
    ∙ ap (λ (a : ℕ × List ℕ). of_room t.nodes t.edges (length a.1) (length a.1) (grown t a.0 a.1)) is

-- where the first name is missing, all are
all_to_make : (es : List Edge) (s : ℕ) (xs : List ℕ) → Missing es s xs → deepest es s xs ≡ (s, xs)
unfolding deepest
all_to_make es s [] h = refl
all_to_make es s (x ∷ xs) h = rw h

-- a path that may be given begins with a name, and its rest may be given
path_rest : (x : ℕ) (path : List ℕ) → is_new_path (x ∷ path) ≡ true → (0 < x) × (is_new_path path ≡ true)
path_rest x path ok =
    let a = (and-eq-true_iff (is_path (x ∷ path)) (not (has 0 (x ∷ path)))).0 ok in
    let short = le-leb (length path) 4 (omega (arith, leb-true (length (x ∷ path)) 4 a.0)) in
    let names = has_not 0 x path (not-true _ a.1) in
    (omega (arith, names.0), rw (short, names.1))

-- the arguments of the rest of a path pass, from any node of a sound table
rest_ok : (u : SymbolTable) (c x : ℕ) (path : List ℕ) → is_new_path (x ∷ path) ≡ true → Sound u → c < u.nodes
    → (is_node u c && is_new_path path) ≡ true
rest_ok u c x path ok h l = rw (sound_table u h, lt-ltb c u.nodes l, (path_rest x path ok).1)

-- a test that fails with another refuses as that does
refused_too : {A : Type 0} (b d : Bool) (x y : A) (n : ℕ) {k : ℕ} → (b ≡ false → d ≡ false)
    → pick b (Done x) (Refused n) ≡ Refused k → pick d (Done y) (Refused n) ≡ Refused k
refused_too true d x y n h e = never (cc)
refused_too false d x y n h e = sym (at_false _ _ (h refl)) ∙ e

-- no id: the node itself
pub ensure_none : (t : SymbolTable) (s : ℕ) → is_node t s ≡ true → ensure_index t s [] ≡ Done (t, s)
unfolding deepest grown room has
ensure_none t s ok =
    let h = (node_is t s ok).0 in
    let nodes = le-leb (t.nodes + 0) 1024 (omega (arith, h.few_nodes)) in
    let edges = le-leb (t.edges + 0) 2048 (omega (arith, h.few_edges)) in
    ensure_from t s [] (s, []) ((and-eq-true_iff (is_node t s) (is_new_path [])).1 (ok, refl)) refl ∙ rw (nodes, edges)

module _ (t : SymbolTable) (s x : ℕ) (path : List ℕ) (ok : (is_node t s && is_new_path (x ∷ path)) ≡ true) where
  args : (is_node t s ≡ true) × (is_new_path (x ∷ path) ≡ true)
  args = (and-eq-true_iff (is_node t s) (is_new_path (x ∷ path))).0 ok

  -- an id that is there: on from its node
  pub ensure_there : (c : ℕ) → child_of (edges_of t) s x ≡ Some c → ensure_index t s (x ∷ path) ≡ ensure_index t c path
  unfolding deepest
  ensure_there c e =
      let h = (node_is t s args.0).0 in
      let next = rest_ok t c x path args.1 h (fit_child (edges_of t) t.nodes s x c h.fit e) in
      ensure_from t s (x ∷ path) (deepest (edges_of t) c path) ok (rw e) ∙ sym (ensure_from t c path _ next refl)

  module _ (e : child_of (edges_of t) s x ≡ None) where
    from_here : ensure_index t s (x ∷ path) ≡ of_room t.nodes t.edges (length (x ∷ path)) (length (x ∷ path)) (grown t s (x ∷ path))
    from_here = ensure_from t s (x ∷ path) (s, x ∷ path) ok (all_to_make (edges_of t) s (x ∷ path) e)

    -- an id that is not there: it is inserted without a number, and on from the new node
    pub ensure_new : {u : SymbolTable × ℕ} → insert t s x None ≡ Done u → length t.links ≡ 6144
        → ensure_index t s (x ∷ path) ≡ ensure_index u.0 u.1 path
    unfolding grown with_edge with_node
    ensure_new made size =
        let a = insert_has t s x None made size in
        let v : SymbolTable = inserted t s x None in
        let n : ℕ = t.nodes in
        let next = rest_ok v n x path args.1 (inserted_sound t s x None a.0) (omega arith) in
        let bare = all_missing (edges_of v) n path (inserted_childless t s x None a.0) in
        let nodes : t.nodes + length (x ∷ path) ≡ v.nodes + length path = omega arith in
        let edges : t.edges + length (x ∷ path) ≡ v.edges + length path = omega arith in
        from_here
        ∙ (λ i. pick (room (nodes i) (edges i)) (Done (grown v n path)) (Refused no_room))
        ∙ sym (ensure_from v n path (n, path) next (all_to_make (edges_of v) n path bare))
        ∙ ap (λ (u : SymbolTable × ℕ). ensure_index u.0 u.1 path) a.1

    -- where it cannot be inserted, that is the refusal of the whole
    pub ensure_refused : {k : ℕ} → insert t s x None ≡ Refused k → ensure_index t s (x ∷ path) ≡ Refused k
    unfolding insert
    ensure_refused refused =
        let name = lt-ltb 0 x (path_rest x path args.1).0 in
        let both = (and-eq-true_iff (is_node t s) (is_name x)).1 (args.0, name) in
        from_here ∙ refused_too _ _ _ _ no_room (no_room_lem _ _ _ _ (omega arith) (omega arith)) (at_true _ _ both ∙ refused)
