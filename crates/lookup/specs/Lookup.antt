-- What a name record means. Assumes nothing: these are definitions.
use Rattle.std.specs.Prelude.{ℕ, List, [], ◌∷◌, drop, Option}
use Rattle.refusals.specs.Answer.{Answer}
use Rattle.little.specs.Little.{number}
use Rattle.scopes.specs.Scopes.{query_edges}

-- "2 bytes an id"
abbrev pub ids : List ℕ → List ℕ
ids [] = []
ids (a ∷ []) = []
ids (a ∷ b ∷ bs) = number (a ∷ b ∷ []) ∷ ids bs

-- the path of a name record: what stands behind its kind and its modifier
abbrev pub path_of : List ℕ → List ℕ
path_of r = ids (drop 2 r)

-- "Lookup takes the node that query finds", in k edges, from a scope
unfoldable pub node_of : List ℕ → ℕ → ℕ → List ℕ → Answer (Option ℕ)
node_of links k scope r = query_edges links k scope (path_of r)
