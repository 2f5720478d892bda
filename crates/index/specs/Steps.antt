-- What private functions above ask of an index. No public promise cites these. Assumes nothing: these are definitions.
use Rattle.std.specs.Prelude.{true, List, ◌≡◌, ℕ, ◌≤◌}
use Rattle.edges.specs.Edges.{max_nodes, max_edges, edges_in}
use Rattle.soundness.specs.Sound.{all_fit}
use Rattle.soundness.specs.Steps.{Ends}
use Rattle.index.specs.Index.{index_of}

-- the first n edges are no more than a table has, and join its nodes
abbrev pub Fits : List ℕ → ℕ → Type 0
Fits links n = (n ≤ max_edges) × (all_fit max_nodes (edges_in links n) ≡ true)

-- they fit, the index is theirs, and the chain of s ends at the root
pub record Asks (index links : List ℕ) (n s : ℕ) : Type 0 where
  pub fit : Fits links n
  pub indexed : index ≡ index_of links n
  pub ends : Ends (edges_in links n) s
