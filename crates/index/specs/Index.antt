-- An index of edges as a list of words, and what a name means by it. Assumes nothing: these are definitions.
use Rattle.std.specs.Prelude.{Bool, ◌&&◌, List, [], ◌∷◌, ℕ, zero, suc, ◌+◌, ◌%◌, min, eqb, ltb, get_or, set, replicate, Option, None, Some}
use Rattle.refusals.specs.Answer.{pick}
use Rattle.edges.specs.declared.Edge.{Edge}
use Rattle.edges.specs.Edges.{super, max_nodes, max_edges, max_path, found, last_edge, edge_at}

-- ---- which word is whose

-- as many buckets as nodes: the edges from s under the name x are in this one
abbrev pub bucket : ℕ → ℕ → ℕ
bucket s x = (s + x) % max_nodes

-- behind the buckets' words stand those of the nodes
abbrev pub node_word : ℕ → ℕ
node_word s = max_nodes + s

-- and behind these, those of the edges
abbrev pub edge_word : ℕ → ℕ
edge_word i = max_edges + i

-- ---- what the words say

-- the edge of a bucket next older than edge i, and 1
unfoldable pub older_than : List ℕ → ℕ → ℕ
older_than index i = pick (ltb i max_edges) (get_or index (edge_word i) 0) 0

-- the edge is one from s under the name x
abbrev pub is_named : ℕ → ℕ → Edge → Bool
is_named s x e = eqb e.from s && eqb e.id x

-- where an edge from s under the name x leads: edge k - 1 if it is such a one, else the next older one of its bucket that is, of
-- at most n edges
unfoldable pub among : (index links : List ℕ) (s x n k : ℕ) → Option ℕ
among index links s x zero k = None
among index links s x (suc n) zero = None
among index links s x (suc n) (suc k) =
    let e = edge_at links (min k last_edge) in
    pick (is_named s x e) (Some e.to) (among index links s x n (older_than index k))

-- the same from the newest edge of the bucket on
unfoldable pub child_by : (index links : List ℕ) (n s x : ℕ) → Option ℕ
child_by index links n s x = among index links s x n (get_or index (bucket s x) 0)

-- a word says a number, and 1, or none
abbrev pub less1 : ℕ → Option ℕ
less1 zero = None
less1 (suc n) = Some n

-- the parent of s
unfoldable pub parent_by : List ℕ → ℕ → Option ℕ
parent_by index s = pick (ltb s max_nodes) (less1 (get_or index (node_word s) 0)) None

-- a path as four words and a count: the id at i, 0 behind the fourth
unfoldable pub id_at : List ℕ → ℕ → ℕ
id_at ids i = pick (ltb i max_path) (get_or ids i 0) 0

-- so many ids from i on
unfoldable pub ids_from : List ℕ → ℕ → ℕ → List ℕ
ids_from ids i zero = []
ids_from ids i (suc k) = id_at ids i ∷ ids_from ids (suc i) k

-- the path, and its four words
abbrev pub path_in : List ℕ → ℕ → List ℕ
path_in ids count = ids_from ids 0 count

unfoldable pub ids_of : List ℕ → List ℕ
ids_of path = get_or path 0 0 ∷ get_or path 1 0 ∷ get_or path 2 0 ∷ get_or path 3 0 ∷ []

-- one id of a path, a super or a name
unfoldable pub step_by : (index links : List ℕ) (n s x : ℕ) → Option ℕ
step_by index links n s x = pick (eqb x super) (parent_by index s) (child_by index links n s x)

-- the whole path
unfoldable pub walk_by : (index links : List ℕ) (n : ℕ) (path : List ℕ) (s : ℕ) → Option ℕ
walk_by index links n [] s = Some s
walk_by index links n (x ∷ xs) s = found (step_by index links n s x) None (λ m. walk_by index links n xs m)

-- ---- its edges

-- with edge i: it is the newest of its bucket, which was newest is the next older one, and its scope is the node's parent
unfoldable pub noted : List ℕ → ℕ → Edge → List ℕ
noted index i e =
    let b = bucket e.from e.id in
    set (set (set index (edge_word i) (get_or index b 0)) b (i + 1)) (node_word e.to) (e.from + 1)

-- a table has room for edge i and its nodes
abbrev pub has_room : ℕ → Edge → Bool
has_room i e = ltb i max_edges && ltb e.from max_nodes && ltb e.to max_nodes

unfoldable pub added : List ℕ → ℕ → Edge → List ℕ
added index i e = pick (has_room i e) (noted index i e) index

-- how many words there are
abbrev pub words : ℕ
words = 4096

-- of the first n edges, in the order of adding
unfoldable pub index_of : List ℕ → ℕ → List ℕ
index_of links zero = replicate words 0
index_of links (suc n) = added (index_of links n) n (edge_at links n)
