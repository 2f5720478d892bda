-- What private functions promise each other on the way: the parents of all nodes as a list, and what marks on nodes say. No public
-- promise cites these. Assumes nothing: these are definitions.
use Rattle.std.specs.Prelude.{true, ◌≡◌, List, ℕ, ◌+◌, ◌<◌, ◌≤◌, get_or, None}
use Rattle.edges.specs.declared.Edge.{Edge}
use Rattle.edges.specs.Edges.{root, max_nodes, found, parent_of}
use Rattle.soundness.specs.Sound.{all_fit, rooted}

-- a node's parent and 1, or 0 where it has none
abbrev pub parent_plus1 : List Edge → ℕ → ℕ
parent_plus1 es s = found (parent_of es s) 0 (λ p. p + 1)

-- the list has that of each of 1,024 nodes
unfoldable pub Parents : List ℕ → List Edge → Type 0
Parents up es = (s : ℕ) → s < max_nodes → get_or up s 0 ≡ parent_plus1 es s

-- no parent is beyond the nodes
abbrev pub Small : List ℕ → Type 0
Small up = (s : ℕ) → s < max_nodes → get_or up s 0 ≤ max_nodes

-- the list has the parents of n nodes, and every edge joins two of them
pub record Tells (up : List ℕ) (es : List Edge) (n : ℕ) : Type 0 where
  pub parents : Parents up es
  pub fit : all_fit n es ≡ true
  pub most : n ≤ max_nodes

-- the root is marked; and what is marked has a chain that ends at the root, and a mark of at most m
pub record Known (es : List Edge) (m : ℕ) (seen : List ℕ) : Type 0 where
  pub root : get_or seen 0 0 ≡ 1
  pub marked : (k : ℕ) → (get_or seen k 0 ≡ 0 → ⊥) → (rooted es k ≡ true) × (get_or seen k 0 ≤ m)

-- the chain of s ends at the root, which has no parent
abbrev pub Ends : List Edge → ℕ → Type 0
Ends es s = (parent_of es root ≡ None) × (rooted es s ≡ true)
