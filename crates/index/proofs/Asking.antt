-- What a look-up by the index says of the edges, where they fit and the index is theirs; and the way up. Assumes nothing.
use Rattle.std.specs.Prelude.{Option, Some}
use mathlib.Core.Bool.{true}
use mathlib.Core.List.{List}
use mathlib.Core.Path.{◌≡◌, ap, ◌∙◌}
use Prim.Native.Nat.{ℕ, min}
use native.Mathlib.Omega.{arith}
use Rattle.edges.specs.Edges.{max_edges, parent_of, walk_of, edges_in}
use Rattle.soundness.specs.Sound.{is_node_in}
use Rattle.soundness.proofs.Nodes.{node_has}
use Rattle.soundness.proofs.Rooted.{chain_rest}
use Rattle.index.specs.Index.{parent_by, walk_by, index_of}
use Rattle.index.specs.Steps.{Asks}
use Rattle.index.proofs.Agrees.{parent_agrees, walk_agrees}

module _ (index links : List ℕ) (n s : ℕ) (a : Asks index links n s) where
  pub by_walk : {path : List ℕ} (given : List ℕ) → given ≡ path → {o : Option ℕ} → o ≡ walk_by index links n given s
      → o ≡ walk_of (edges_in links n) path s
  by_walk {path} given is told =
      told
      ∙ (λ i. walk_by (a.indexed i) links n (is i) s)
      ∙ walk_agrees links n a.fit.0 a.fit.1 path s

  pub by_parent : {o : Option ℕ} → o ≡ parent_by index s → o ≡ parent_of (edges_in links n) s
  by_parent told =
      told ∙ ap (λ (l : List ℕ). parent_by l s) a.indexed ∙ parent_agrees links s n a.fit.0 a.fit.1

  -- a parent's chain ends at the root too
  pub asks_up : {p : ℕ} → parent_of (edges_in links n) s ≡ Some p → Asks index links n p
  asks_up up = record {
    fit = a.fit;
    indexed = a.indexed;
    ends = (a.ends.0, (chain_rest _ s a.ends.1 a.ends.0 up).0);
  }

-- so a node of a sound table may be asked from, by the index of its edges
pub node_asks : (nodes n : ℕ) (links : List ℕ) (s : ℕ) → is_node_in nodes n (edges_in links n) s ≡ true
    → {index : List ℕ} → index ≡ index_of links n → Asks index links n s
node_asks nodes n links s node indexed =
    let h = node_has nodes n (edges_in links n) s node in
    record { fit = (h.few_edges, h.fit); indexed = indexed; ends = h.ends }

-- and by the index that `of` makes
pub made_asks : (nodes n : ℕ) (links : List ℕ) (s : ℕ) → is_node_in nodes n (edges_in links n) s ≡ true
    → {index : List ℕ} → index ≡ index_of links (min n max_edges) → Asks index links n s
made_asks nodes n links s node indexed =
    let all : min n max_edges ≡ n = omega (arith, (node_has nodes n (edges_in links n) s node).few_edges) in
    node_asks nodes n links s node (indexed ∙ ap (index_of links) all)
