-- Document 01's "Symbols" as a plain list of edges, the last added first: what a name means in it, and which words of a table
-- hold it. Assumes nothing: these are definitions.
use Rattle.std.specs.Prelude.{Bool, false, not, ◌&&◌, ◌||◌, ℕ, zero, suc, ◌+◌, ◌-◌, ◌*◌, min, List, [], ◌∷◌, eqb, leb, length, get_or, Option, None, Some}
use Rattle.refusals.specs.Answer.{pick}
use Rattle.edges.specs.declared.Edge.{Edge}
use Rattle.edges.specs.declared.There.{There}

-- ---- numbers that have a name

-- "the root 0"
abbrev pub root : ℕ
root = 0

-- "id 0 is "super", in read paths only"
abbrev pub super : ℕ
super = 0

-- "At most 1,024 nodes with the root"
abbrev pub max_nodes : ℕ
max_nodes = 1024

-- "2,048 edges"
abbrev pub max_edges : ℕ
max_edges = 2048

-- "paths of 0 to 4 ids"
abbrev pub max_path : ℕ
max_path = 4

-- ---- one edge

-- what to do with a node, where there is one; else the first
abbrev pub found : {A : Type 0} → Option ℕ → A → (ℕ → A) → A
found None a f = a
found (Some n) a f = f n

-- "Of edges with one name, which insert allows, the last added answers"
unfoldable pub child_of : List Edge → ℕ → ℕ → Option ℕ
child_of [] s x = None
child_of (e ∷ es) s x = pick (eqb e.from s && eqb e.id x) (Some e.to) (child_of es s x)

-- "parent is the source of the incoming edge last added"
unfoldable pub parent_of : List Edge → ℕ → Option ℕ
parent_of [] s = None
parent_of (e ∷ es) s = pick (eqb e.to s) (Some e.from) (parent_of es s)

-- ---- paths

-- one id of a path, a super or a name
unfoldable pub step_of : List Edge → ℕ → ℕ → Option ℕ
step_of es s x = pick (eqb x super) (parent_of es s) (child_of es s x)

-- "follow the whole path"
unfoldable pub walk_of : List Edge → List ℕ → ℕ → Option ℕ
walk_of es [] s = Some s
walk_of es (x ∷ xs) s = found (step_of es s x) None (λ n. walk_of es xs n)

-- "paths of 0 to 4 ids"
abbrev pub is_path : List ℕ → Bool
is_path path = leb (length path) max_path

-- the number stands in the list
unfoldable pub has : ℕ → List ℕ → Bool
has x [] = false
has x (y ∷ ys) = eqb y x || has x ys

-- s, its parent, and so on up: at most k nodes
unfoldable pub chain_of : List Edge → ℕ → ℕ → List ℕ
chain_of es zero s = []
chain_of es (suc k) s = s ∷ found (parent_of es s) [] (λ p. chain_of es k p)

-- "that node's chain to the root": no more nodes than there can be
unfoldable pub chain : List Edge → ℕ → List ℕ
chain es s = chain_of es max_nodes s

-- ---- lookup

-- the innermost scope of a chain in which the whole path is found: "if it fails and holds a super, not found; else ask again
-- from the parent"
unfoldable pub query_on : List Edge → List ℕ → List ℕ → Option ℕ
query_on es path [] = None
query_on es path (s ∷ ss) = found (walk_of es path s) (pick (has super path) None (query_on es path ss)) Some

-- "Query from a scope"
unfoldable pub query_of : List Edge → ℕ → List ℕ → Option ℕ
query_of es s path = query_on es path (chain es s)

-- "asks at each scope up to the root and may list a node several times"
unfoldable pub all_on : List Edge → List ℕ → List ℕ → List ℕ
all_on es path [] = []
all_on es path (s ∷ ss) = found (query_on es path (s ∷ ss)) (all_on es path ss) (λ n. n ∷ all_on es path ss)

-- "query_all" from a scope
unfoldable pub all_of : List Edge → ℕ → List ℕ → List ℕ
all_of es s path = all_on es path (chain es s)

-- ---- what is there of a path that is to be made

-- the deepest node of the path that is there, and the ids that are missing below it
unfoldable pub deepest : List Edge → ℕ → List ℕ → ℕ × List ℕ
deepest es s [] = (s, [])
deepest es s (x ∷ xs) = found (child_of es s x) (s, x ∷ xs) (λ n. deepest es n xs)

-- the same node, and how many ids lead to it
unfoldable pub there_of : List Edge → ℕ → List ℕ → There
there_of es s path = record { node = (deepest es s path).0; depth = length path - length (deepest es s path).1 }

-- an edge from s under the name x that leads to another node than n
unfoldable pub elsewhere : ℕ → ℕ → ℕ → Edge → Bool
elsewhere s x n e = eqb e.from s && eqb e.id x && not (eqb e.to n)

-- "any edge of that name there leads to another node"
unfoldable pub taken : List Edge → ℕ → ℕ → ℕ → Bool
taken [] s x n = false
taken (e ∷ es) s x n = elsewhere s x n e || taken es s x n

-- ---- its words

-- how many words an edge has
abbrev pub width : ℕ
width = 3

-- edge i stands behind the i edges before it
unfoldable pub edge_at : List ℕ → ℕ → Edge
edge_at links i = let at = width * i in record { from = get_or links at 0; id = get_or links (at + 1) 0; to = get_or links (at + 2) 0 }

-- the last edge that there is room for
abbrev pub last_edge : ℕ
last_edge = 2047

-- the first k edges, the last added first
unfoldable pub edges_in : List ℕ → ℕ → List Edge
edges_in links zero = []
edges_in links (suc k) = edge_at links k ∷ edges_in links k

-- the edges of a table that counts k of them: no more than it has room for
abbrev pub held : List ℕ → ℕ → List Edge
held links k = edges_in links (min k max_edges)
