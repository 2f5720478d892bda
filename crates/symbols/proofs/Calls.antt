-- What the tests of a call say, and which answer the definitions give behind them. Assumes nothing.
use Rattle.std.specs.Prelude.{Option, None}
use mathlib.Core.Bool.{true, ◌&&◌, and-eq-true_iff}
use mathlib.Core.Path.{◌≡◌, sym, ap, ◌∙◌}
use mathlib.Core.List.{List, [], ◌∷◌}
use Prim.Native.Nat.{ℕ, zero, suc, ◌+◌, ◌-◌, ◌<◌, ◌≤◌}
use native.Mathlib.Nat.{not-suc-le-zero}
use native.Mathlib.Omega.{arith}
use lib.Dec.{eqb, ltb}
use lib.IntN.{ℤ}
use lib.ListN.{length, take, drop, length-drop}
use lib.Seq.{length-take-le, take-length}
use borrow.Author.Tests.{ltb-true}
use Rattle.refusals.specs.Answer.{Answer, Done, Refused, mapped}
use Rattle.refusals.specs.Table.{argument, no_room, name_taken, loop}
use Rattle.refusals.proofs.Pick.{done_passed, done_missed, done_value}
use Rattle.edges.specs.declared.There.{There}
use Rattle.edges.specs.Edges.{has, chain, deepest, there_of, taken}
use Rattle.edges.proofs.Laws.{there_few, there_rest}
use Rattle.growth.specs.Growth.{is_name, is_new_path, room, of_room, front, last_id, may_insert, may_ensure, may_export, export_from}
use Rattle.growth.proofs.Laws.{path_few, room_has, insert_other, ensure_other, export_other}
use Rattle.symbols.specs.declared.SymbolTable.{SymbolTable}
use Rattle.symbols.specs.Symbols.{edges_of, is_node, with_edge, with_node, inserted, grown, insert, ensure_index, exported, export}

-- ---- insert

module _ (t : SymbolTable) (s x : ℕ) (d : Option ℤ) where
  abbrev MayInsert : Answer (Unit {0}) → Type 0
  MayInsert r = r ≡ may_insert t.nodes t.edges (edges_of t) s x tt

  -- the table and the node in the place of what the test gave back
  insert_told : {r : Answer (Unit {0})} → MayInsert r → mapped (λ _. (inserted t s x d, t.nodes)) r ≡ insert t s x d
  unfolding insert
  insert_told told =
      ap (mapped (λ _. (inserted t s x d, t.nodes))) told
      ∙ sym (insert_other tt (inserted t s x d, t.nodes) t.nodes t.edges (edges_of t) s x)

  pub insert_refused : {why : ℕ} → MayInsert (Refused why) → Refused why ≡ insert t s x d
  insert_refused told = insert_told told

  module _ (told : MayInsert (Done tt)) where
    pub insert_done : Done (inserted t s x d, t.nodes) ≡ insert t s x d
    insert_done = insert_told told

    pub insert_room : (t.nodes + 1 ≤ 1024) × (t.edges + 1 ≤ 2048)
    insert_room =
        let a = done_passed (is_node t s && is_name x) (of_room t.nodes t.edges 1 1 tt) argument (sym told) in
        room_has _ _ (done_passed (room (t.nodes + 1) (t.edges + 1)) (Done tt) no_room a.1).0

-- ---- ensure_index

-- a part up to the end
to_the_end : (path : List ℕ) (d : ℕ) → take (length path - d) (drop d path) ≡ drop d path
to_the_end path d = ap (λ (k : ℕ). take k (drop d path)) (sym (length-drop d path)) ∙ take-length (drop d path)

module _ (t : SymbolTable) (s : ℕ) (path : List ℕ) where
  abbrev there : ℕ × List ℕ
  there = deepest (edges_of t) s path

  -- the test, which gives back where new nodes begin
  abbrev MayEnsure : Answer There → Type 0
  MayEnsure r = r ≡ may_ensure t.nodes t.edges (edges_of t) s path (there_of (edges_of t) s path)

  ensure_told : {r : Answer There} → MayEnsure r → mapped (λ _. grown t there.0 there.1) r ≡ ensure_index t s path
  unfolding ensure_index
  ensure_told told =
      ap (mapped (λ _. grown t there.0 there.1)) told
      ∙ sym (ensure_other _ (grown t there.0 there.1) t.nodes t.edges (edges_of t) s path)

  pub ensure_refused : {why : ℕ} → MayEnsure (Refused why) → Refused why ≡ ensure_index t s path
  ensure_refused told = ensure_told told

  module _ {u : There} (told : MayEnsure (Done u)) where
    ensure_there : u ≡ there_of (edges_of t) s path
    ensure_there =
        done_value (told ∙ ensure_other _ _ t.nodes t.edges (edges_of t) s path ∙ ap (mapped (λ _. _)) (sym told))

    pub ensure_few : u.depth ≤ length path
    ensure_few = omega (arith, ap (λ (v : There). v.depth) ensure_there, there_few (edges_of t) s path)

    -- the part of the path that is made
    ensure_names : take (length path - u.depth) (drop u.depth path) ≡ there.1
    ensure_names =
        to_the_end path u.depth ∙ ap (λ (v : There). drop v.depth path) ensure_there ∙ there_rest (edges_of t) s path

    ensure_node : u.node ≡ there.0
    unfolding there_of
    ensure_node = ap (λ (v : There). v.node) ensure_there

    pub ensure_done : let names = take (length path - u.depth) (drop u.depth path) in
        Done (grown t u.node names) ≡ ensure_index t s path
    ensure_done = (λ i. Done (grown t (ensure_node i) (ensure_names i))) ∙ ensure_told told

    pub ensure_room : let missing = length (take (length path - u.depth) (drop u.depth path)) in
        (t.nodes + missing ≤ 1024) × (t.edges + missing ≤ 2048)
    ensure_room =
        let m : ℕ = length there.1 in
        let a = done_passed (is_node t s && is_new_path path) (of_room t.nodes t.edges m m _) argument (sym told) in
        let b = room_has _ _ (done_passed (room (t.nodes + m) (t.edges + m)) (Done _) no_room a.1).0 in
        let same = ap (λ (l : List ℕ). length l) ensure_names in
        (omega (arith, b.0, same), omega (arith, b.1, same))

-- ---- export

-- how many edges there are behind new nodes
pub grown_edges : (t : SymbolTable) (s : ℕ) (names : List ℕ) → (grown t s names).0.edges ≡ t.edges + length names
unfolding grown with_edge with_node
grown_edges t s [] = omega arith
grown_edges t s (x ∷ names) = grown_edges (inserted t s x None) t.nodes names ∙ omega arith

-- the part of a path from d on, up to k
part : (path : List ℕ) (d k : ℕ) → d ≤ k → k ≤ length path → drop d (take k path) ≡ take (k - d) (drop d path)
part path zero k l h = let e : k ≡ k - 0 = omega arith in ap (λ (j : ℕ). take j path) e
part path (suc d) zero l h = absurd (not-suc-le-zero l)
part [] (suc d) (suc k) l h = absurd (not-suc-le-zero h)
part (x ∷ path) (suc d) (suc k) l h =
    part path d k (omega arith) (omega arith)
    ∙ (let e : k - d ≡ suc k - suc d = omega arith in ap (λ (j : ℕ). take j (drop d path)) e)

module _ (t : SymbolTable) (n s : ℕ) (path : List ℕ) where
  abbrev above : ℕ × List ℕ
  above = deepest (edges_of t) s (front path)

  abbrev MayExport : Answer There → Type 0
  MayExport r = r ≡ may_export t.nodes t.edges (edges_of t) n s path (there_of (edges_of t) s (front path))

  export_told : {r : Answer There} → MayExport r → mapped (λ _. exported t n above (last_id path)) r ≡ export t n s path
  unfolding export
  export_told told =
      ap (mapped (λ _. exported t n above (last_id path))) told
      ∙ sym (export_other _ (exported t n above (last_id path)) t.nodes t.edges (edges_of t) n s path)

  pub export_refused : {why : ℕ} → MayExport (Refused why) → Refused why ≡ export t n s path
  export_refused told = export_told told

  module _ {u : There} (told : MayExport (Done u)) where
    export_there : u ≡ there_of (edges_of t) s (front path)
    export_there =
        done_value (told ∙ export_other _ _ t.nodes t.edges (edges_of t) n s path ∙ ap (mapped (λ _. _)) (sym told))

    -- the tests passed, one behind the other
    passed : let m = length above.1 in
        ((is_node t s && is_node t n && is_new_path path && ltb 0 (length path)) ≡ true) × (room (t.nodes + m) (t.edges + (m + 1)) ≡ true)
    unfolding export_from
    passed =
        let m : ℕ = length above.1 in
        let here = is_node t s && is_node t n && is_new_path path && ltb 0 (length path) in
        let a = done_passed here _ argument (sym told) in
        let b = done_missed (has n (chain (edges_of t) above.0)) _ loop a.1 in
        let c = done_missed (eqb m 0 && taken (edges_of t) above.0 (last_id path) n) _ name_taken b.1 in
        (a.0, (done_passed (room (t.nodes + m) (t.edges + (m + 1))) _ no_room c.1).0)

    pub export_long : 0 < length path
    export_long =
        ltb-true 0 (length path) ((and-eq-true_iff (is_node t s && is_node t n && is_new_path path) (ltb 0 (length path))).0 passed.0).1

    pub export_short : length path ≤ 4
    export_short =
        let ids = ((and-eq-true_iff (is_node t s && is_node t n && is_new_path path) (ltb 0 (length path))).0 passed.0).0 in
        path_few path ((and-eq-true_iff (is_node t s && is_node t n) (is_new_path path)).0 ids).1

    -- how long the front is
    front_long : length (front path) ≡ length path - 1
    front_long = length-take-le (length path - 1) path (omega arith)

    pub export_few : u.depth ≤ length path - 1
    export_few = omega (arith, ap (λ (v : There). v.depth) export_there, there_few (edges_of t) s (front path), front_long)

    -- the part of the path that is made
    export_names : take (length path - 1 - u.depth) (drop u.depth path) ≡ above.1
    export_names =
        sym (part path u.depth (length path - 1) export_few (omega arith))
        ∙ ap (λ (v : There). drop v.depth (front path)) export_there
        ∙ there_rest (edges_of t) s (front path)

    export_node : u.node ≡ above.0
    unfolding there_of
    export_node = ap (λ (v : There). v.node) export_there

    pub export_done : let names = take (length path - 1 - u.depth) (drop u.depth path) in
        Done (exported t n (u.node, names) (last_id path)) ≡ export t n s path
    export_done =
        (λ i. Done (exported t n (export_node i, export_names i) (last_id path))) ∙ export_told told

    pub export_room : let missing = length (take (length path - 1 - u.depth) (drop u.depth path)) in
        (t.nodes + missing ≤ 1024) × (t.edges + missing < 2048)
    export_room =
        let b = room_has _ _ passed.1 in
        let same = ap (λ (l : List ℕ). length l) export_names in
        (omega (arith, b.0, same), omega (arith, b.1, same))
