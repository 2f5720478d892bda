-- What the small steps of a call make of a table: a node more, an edge more. Assumes nothing.
use Rattle.std.specs.Prelude.{Option, None}
use mathlib.Core.Path.{◌≡◌, refl, ap}
use mathlib.Core.List.{List}
use Prim.Native.Nat.{ℕ, suc, ◌+◌, ◌*◌, ◌<◌, ◌≤◌}
use native.Mathlib.Numerals.{add-one}
use native.Mathlib.Omega.{arith}
use lib.IntN.{ℤ}
use lib.ListN.{length, get_or, set, drop}
use lib.Seq.{drop-cons}
use Rattle.symbols.specs.declared.SymbolTable.{SymbolTable}
use Rattle.symbols.specs.Symbols.{with_edge, with_node, inserted, grown}
use Rattle.edges.proofs.Laws.{at_end, three_stores}

-- ---- a changed table

-- a table by its parts
abbrev table : ℕ → ℕ → List ℕ → List (Option ℤ) → SymbolTable
table nodes edges links numbers = record { nodes = nodes; edges = edges; links = links; numbers = numbers }

module _ (t : SymbolTable) where
  pub edge_more : (s x n : ℕ) → t.edges < 2048 → length t.links ≡ 6144 → let at = 3 * t.edges in
      table t.nodes (t.edges + 1) (set (set (set t.links at s) (at + 1) x) (at + 2) n) t.numbers
      ≡ with_edge t s x n
  unfolding with_edge
  edge_more s x n h size i =
      table t.nodes (t.edges + 1) (three_stores t.links (3 * t.edges) (omega arith) s x n i) t.numbers

  pub node_edges : (d : Option ℤ) → (with_node t d).edges ≡ t.edges
  unfolding with_node
  node_edges d = refl

-- ---- nodes one below the other

module _ (t u : SymbolTable) (s x : ℕ) (d : Option ℤ) (is : u ≡ inserted t s x d) where
  pub one_node_more : u.nodes ≡ t.nodes + 1
  unfolding with_node with_edge
  one_node_more = ap (λ (v : SymbolTable). v.nodes) is

  pub one_edge_more : u.edges ≡ t.edges + 1
  unfolding with_node with_edge
  one_edge_more = ap (λ (v : SymbolTable). v.edges) is

module _ (names : List ℕ) (i : ℕ) where
  pub grown_on : (t u : SymbolTable) (s : ℕ) → i < length names → u ≡ inserted t s (get_or names i 0) None
      → grown u t.nodes (drop (i + 1) names) ≡ grown t s (drop i names)
  unfolding grown
  grown_on t u s h is = rw (add-one, drop-cons names i 0 h) (ap (λ (v : SymbolTable). grown v t.nodes (drop (suc i) names)) is)

  pub grown_end : (t : SymbolTable) (s : ℕ) → i ≤ length names → length names ≤ i → (t, s) ≡ grown t s (drop i names)
  unfolding grown
  grown_end t s h g = rw (at_end names i h g)
