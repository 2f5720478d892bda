-- Which tables are sound: document 01's bad index, and the chain that misses the root. Assumes nothing: these are definitions.
use Rattle.std.specs.Prelude.{Bool, true, ◌&&◌, List, [], ◌∷◌, ℕ, zero, suc, leb, ltb}
use Rattle.refusals.specs.Answer.{Answer, Refused, pick}
use Rattle.refusals.specs.Table.{argument}
use Rattle.edges.specs.declared.Edge.{Edge}
use Rattle.edges.specs.Edges.{root, super, max_nodes, max_edges, has, chain}

-- an edge between two of n nodes, under an id that is no super, and not into the root
unfoldable pub fits : ℕ → Edge → Bool
fits n e = ltb e.from n && ltb e.to n && ltb root e.to && ltb super e.id

-- every edge is one
unfoldable pub all_fit : ℕ → List Edge → Bool
all_fit n [] = true
all_fit n (e ∷ es) = fits n e && all_fit n es

-- every number below n passes the test
unfoldable pub all_below : ℕ → (ℕ → Bool) → Bool
all_below zero f = true
all_below (suc n) f = f n && all_below n f

-- the chain of s ends at the root
unfoldable pub rooted : List Edge → ℕ → Bool
rooted es s = has root (chain es s)

-- "A table [..] with a bad index, or a chain that misses the root, is a 1": n nodes, and k edges, which are es
unfoldable pub sound_edges : ℕ → ℕ → List Edge → Bool
sound_edges n k es = leb 1 n && leb n max_nodes && leb k max_edges && all_fit n es && all_below n (rooted es)

-- the same, and node s is one of the n
abbrev pub is_node_in : ℕ → ℕ → List Edge → ℕ → Bool
is_node_in n k es s = sound_edges n k es && ltb s n

-- "an argument, index or buffer length is outside its stated range; tested first"
abbrev pub of_range : {A : Type 0} → Bool → Answer A → Answer A
of_range b a = pick b a (Refused argument)
