-- Laws of the query, scope by scope: in a sound table, and in edges that may be anything. Assumes nothing.
use Rattle.std.specs.Prelude.{Option, None, Some}
use mathlib.Core.Bool.{true, false, ◌&&◌}
use mathlib.Core.Path.{◌≡◌, refl, ap, ◌∙◌}
use mathlib.Core.List.{List}
use Prim.Native.Nat.{ℕ, suc, ◌-◌, ◌<◌, ◌≤◌}
use native.Mathlib.Omega.{arith}
use lib.Dec.{eqb}
use lib.ListN.{length}
use Rattle.refusals.specs.Answer.{Answer, Done, Refused, mapped}
use Rattle.refusals.specs.Table.{argument}
use Rattle.edges.specs.declared.Edge.{Edge}
use Rattle.edges.specs.Edges.{is_path, parent_of, walk_of, has, chain_of, query_on, query_of, all_of}
use Rattle.soundness.specs.Sound.{rooted, is_node_in}
use Rattle.soundness.proofs.Rooted.{chain_first, chain_alone, chain_rest}
use Rattle.scopes.specs.Scopes.{query_all_in, listed, list_after}

-- ---- one scope of a query

module _ (es : List Edge) (s : ℕ) (r : rooted es s ≡ true) (path : List ℕ) where
  pub query_here : {n : ℕ} → walk_of es path s ≡ Some n → query_of es s path ≡ Some n
  unfolding query_of query_on
  query_here w = rw ((chain_first es s r).1, w)

  pub query_super : walk_of es path s ≡ None → has 0 path ≡ true → query_of es s path ≡ None
  unfolding query_of query_on
  query_super w h = rw ((chain_first es s r).1, w, h)

  pub query_up : {p : ℕ} → parent_of es 0 ≡ None → walk_of es path s ≡ None → has 0 path ≡ false → parent_of es s ≡ Some p
      → query_of es s path ≡ query_of es p path
  unfolding query_of query_on
  query_up top w h e = rw ((chain_rest es s r top e).1, w, h)

  pub query_top : walk_of es path s ≡ None → has 0 path ≡ false → parent_of es s ≡ None → query_of es s path ≡ None
  unfolding query_of query_on
  query_top w h e = rw (chain_alone es s r e, w, h)

-- ---- one scope of any chain: k nodes of it are left

module _ (es : List Edge) (path : List ℕ) (k s : ℕ) where
  abbrev left : ℕ → Option ℕ
  left n = query_on es path (chain_of es n s)

  pub any_none : k ≤ 0 → left k ≡ None
  unfolding query_on chain_of
  any_none h = let z : k ≡ 0 = omega arith in rw z

  module _ (some_left : 0 < k) where
    more : k ≡ suc (k - 1)
    more = omega arith

    pub any_here : {n : ℕ} → walk_of es path s ≡ Some n → left k ≡ Some n
    unfolding query_on chain_of
    any_here w = ap left more ∙ rw w

    module _ (w : walk_of es path s ≡ None) where
      pub any_super : has 0 path ≡ true → left k ≡ None
      unfolding query_on chain_of
      any_super h = ap left more ∙ rw (w, h)

      module _ (h : has 0 path ≡ false) where
        pub any_top : parent_of es s ≡ None → left k ≡ None
        unfolding query_on chain_of
        any_top e = ap left more ∙ rw (w, h, e)

        pub any_up : {p : ℕ} → parent_of es s ≡ Some p → left k ≡ query_on es path (chain_of es (k - 1) p)
        unfolding query_on chain_of
        any_up e = ap left more ∙ rw (w, h, e)

-- ---- query_all

module _ (n k : ℕ) (es : List Edge) (s : ℕ) (path list : List ℕ) where
  -- the count, and the list afterwards
  abbrev Leaves : Answer ℕ → List ℕ → Type 0
  Leaves a after = (a ≡ mapped length (query_all_in n k es s path (length list))) × (after ≡ list_after list (query_all_in n k es s path (length list)))

  pub all_refused : (is_node_in n k es s && is_path path && eqb (length list) 1024) ≡ false → Leaves (Refused argument) list
  unfolding query_all_in
  all_refused h = rw h (refl, refl)

  -- the answers in the edges as they are held
  pub all_done : {hs : List Edge} → hs ≡ es → (is_node_in n k es s && is_path path && eqb (length list) 1024) ≡ true
      → {m : ℕ} {after : List ℕ} → (after ≡ listed (all_of hs s path)) × (m ≡ length (all_of hs s path)) → Leaves (Done m) after
  unfolding query_all_in
  all_done same h e =
      let here = ap (λ (fs : List Edge). all_of fs s path) same in
      rw h (ap Done (e.1 ∙ ap (λ (l : List ℕ). length l) here), e.0 ∙ ap (λ (l : List ℕ). listed l) here)
