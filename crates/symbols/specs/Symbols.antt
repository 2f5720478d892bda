-- Document 01's "Symbols" as calls on a table: its refusals, and the table that each leaves. Assumes nothing: these are
-- definitions.
use Rattle.std.specs.Prelude.{Bool, ◌&&◌, ℕ, ◌+◌, ◌*◌, List, [], ◌∷◌, ℤ, pos, get_or, set, replicate, Option, None, Some}
use Rattle.refusals.specs.Answer.{Answer, Done, Refused}
use Rattle.refusals.specs.Memory.{over}
use Rattle.edges.specs.declared.Edge.{Edge}
use Rattle.edges.specs.Edges.{max_nodes, max_edges, is_path, child_of, parent_of, walk_of, deepest, width, edges_in}
use Rattle.soundness.specs.Sound.{sound_edges, is_node_in, of_range}
use Rattle.scopes.specs.Scopes.{query_in, query_all_in}
use Rattle.growth.specs.Growth.{is_name, front, last_id, may_insert, may_ensure, may_export}
use Rattle.symbols.specs.declared.SymbolTable.{SymbolTable}

-- ---- a table

-- the edges of a table, the last added first
abbrev pub edges_of : SymbolTable → List Edge
edges_of t = edges_in t.links t.edges

-- "Nodes are numbered as made, the root 0": it alone, without a number
unfoldable pub new : SymbolTable
new = record {
  nodes = 1;
  edges = 0;
  links = replicate (width * max_edges) 0;
  numbers = replicate max_nodes None;
}

-- a table whose counts, edges and chains are so
abbrev pub sound : SymbolTable → Bool
sound t = sound_edges t.nodes t.edges (edges_of t)

-- ---- arguments

-- a sound table, and a node of it
abbrev pub is_node : SymbolTable → ℕ → Bool
is_node t s = is_node_in t.nodes t.edges (edges_of t) s

-- ---- a node's number

-- the number of node s, if it has one
abbrev pub number_at : List (Option ℤ) → ℕ → Option ℤ
number_at numbers s = get_or numbers s None

-- the number, else 0
abbrev pub number_or0 : Option ℤ → ℤ
number_or0 None = pos 0
number_or0 (Some z) = z

-- ---- a changed table

-- node n has this number, or none
unfoldable pub with_data : SymbolTable → ℕ → Option ℤ → SymbolTable
with_data t n d = record {
  nodes = t.nodes;
  edges = t.edges;
  links = t.links;
  numbers = set t.numbers n d;
}

-- one more edge, from s under the name x to n
unfoldable pub with_edge : SymbolTable → ℕ → ℕ → ℕ → SymbolTable
with_edge t s x n = record {
  nodes = t.nodes;
  edges = t.edges + 1;
  links = over t.links (width * t.edges) (s ∷ x ∷ n ∷ []);
  numbers = t.numbers;
}

-- one more node, with this number or none
unfoldable pub with_node : SymbolTable → Option ℤ → SymbolTable
with_node t d = record {
  nodes = t.nodes + 1;
  edges = t.edges;
  links = t.links;
  numbers = set t.numbers t.nodes d;
}

-- a new node under s by the name x
abbrev pub inserted : SymbolTable → ℕ → ℕ → Option ℤ → SymbolTable
inserted t s x d = with_edge (with_node t d) s x t.nodes

-- new nodes, one below the other, by these names; and the deepest
unfoldable pub grown : SymbolTable → ℕ → List ℕ → SymbolTable × ℕ
grown t s [] = (t, s)
grown t s (x ∷ xs) = grown (inserted t s x None) t.nodes xs

-- ---- what a call leaves

-- "Refused calls leave table [..] unchanged": the table that a call gives, or, where it is refused, the table as it was
abbrev pub left : SymbolTable → Answer SymbolTable → SymbolTable × Answer (Unit {0})
left t (Done u) = (u, Done tt)
left t (Refused n) = (t, Refused n)

-- the same of a call that gives a node beside the table
abbrev pub left_node : SymbolTable → Answer (SymbolTable × ℕ) → SymbolTable × Answer ℕ
left_node t (Done u) = (u.0, Done u.1)
left_node t (Refused n) = (t, Refused n)

-- ---- the calls

-- a node's number, if it has one
unfoldable pub get : SymbolTable → ℕ → Answer (Option ℤ)
get t s = of_range (is_node t s) (Done (number_at t.numbers s))

-- "insert": the table with the new node, and its number as a node
unfoldable pub insert : SymbolTable → ℕ → ℕ → Option ℤ → Answer (SymbolTable × ℕ)
insert t s x d = may_insert t.nodes t.edges (edges_of t) s x (inserted t s x d, t.nodes)

-- the table in which the node has this number, or none
unfoldable pub update_data : SymbolTable → ℕ → Option ℤ → Answer SymbolTable
update_data t s d = of_range (is_node t s) (Done (with_data t s d))

-- what one name means in a node
unfoldable pub child : SymbolTable → ℕ → ℕ → Answer (Option ℕ)
child t s x = of_range (is_node t s && is_name x) (Done (child_of (edges_of t) s x))

-- the node above
unfoldable pub parent : SymbolTable → ℕ → Answer (Option ℕ)
parent t s = of_range (is_node t s) (Done (parent_of (edges_of t) s))

-- what a path means in a node
unfoldable pub try_index : SymbolTable → ℕ → List ℕ → Answer (Option ℕ)
try_index t s path = of_range (is_node t s && is_path path) (Done (walk_of (edges_of t) path s))

-- what a path means in a scope, asked from there up
unfoldable pub query : SymbolTable → ℕ → List ℕ → Answer (Option ℕ)
query t s path = query_in t.nodes t.edges (edges_of t) s path

-- the missing nodes of a path are made, all or none
unfoldable pub ensure_index : SymbolTable → ℕ → List ℕ → Answer (SymbolTable × ℕ)
ensure_index t s path =
    let there = deepest (edges_of t) s path in
    may_ensure t.nodes t.edges (edges_of t) s path (grown t there.0 there.1)

-- "Export makes missing path nodes [..], else adds an edge": from there to the exported node n, under the name x
unfoldable pub exported : SymbolTable → ℕ → ℕ × List ℕ → ℕ → SymbolTable
exported t n there x = let made = grown t there.0 there.1 in with_edge made.0 made.1 x n

-- node n is exported from s by the path; "Empty export path: 1"
unfoldable pub export : SymbolTable → ℕ → ℕ → List ℕ → Answer SymbolTable
export t n s path =
    may_export t.nodes t.edges (edges_of t) n s path (exported t n (deepest (edges_of t) s (front path)) (last_id path))

-- the nodes for a lent list of so many places: "its lent list has 1,024 places"
unfoldable pub query_all : SymbolTable → ℕ → List ℕ → ℕ → Answer (List ℕ)
query_all t s path places = query_all_in t.nodes t.edges (edges_of t) s path places
