-- Document 01's query and query_all in a table of n nodes and k edges, with their refusals. Assumes nothing: these are definitions.
use Rattle.std.specs.Prelude.{◌&&◌, List, ◌++◌, ℕ, ◌-◌, eqb, leb, length, replicate, Option}
use Rattle.refusals.specs.Answer.{Answer, Done, Refused}
use Rattle.edges.specs.declared.Edge.{Edge}
use Rattle.edges.specs.Edges.{max_nodes, max_edges, is_path, query_of, all_of, edges_in}
use Rattle.soundness.specs.Sound.{is_node_in, of_range}

-- what a path means in a scope, asked from there up
unfoldable pub query_in : (n k : ℕ) → List Edge → ℕ → List ℕ → Answer (Option ℕ)
query_in n k es s path = of_range (is_node_in n k es s && is_path path) (Done (query_of es s path))

-- the same in k edges that may be those of no sound table: a chain is then no longer than a table has nodes
unfoldable pub query_edges : List ℕ → ℕ → ℕ → List ℕ → Answer (Option ℕ)
query_edges links k s path = of_range (leb k max_edges && is_path path) (Done (query_of (edges_in links k) s path))

-- the nodes for a lent list of so many places: "its lent list has 1,024 places"
unfoldable pub query_all_in : (n k : ℕ) → List Edge → ℕ → List ℕ → ℕ → Answer (List ℕ)
query_all_in n k es s path places = of_range (is_node_in n k es s && is_path path && eqb places max_nodes) (Done (all_of es s path))

-- the answers, and "zero behind the answers"
abbrev pub listed : List ℕ → List ℕ
listed answers = answers ++ replicate (max_nodes - length answers) 0

-- "Refused calls leave [..] query_all's list unchanged"
abbrev pub list_after : List ℕ → Answer (List ℕ) → List ℕ
list_after list (Done answers) = listed answers
list_after list (Refused n) = list
