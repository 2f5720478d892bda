-- Document 01's tests of insert, ensure_index and export, in a table of n nodes and k edges, which are es. Each gives what it is
-- handed, where the call may be done, or the first refusal. Assumes nothing: these are definitions.
use Rattle.std.specs.Prelude.{Bool, not, ◌&&◌, List, ℕ, ◌+◌, ◌-◌, eqb, leb, ltb, length, get_or, take}
use Rattle.refusals.specs.Answer.{Answer, Done, Refused, pick}
use Rattle.refusals.specs.Table.{no_room, name_taken, loop}
use Rattle.edges.specs.declared.Edge.{Edge}
use Rattle.edges.specs.Edges.{super, max_nodes, max_edges, is_path, has, chain, deepest, taken}
use Rattle.soundness.specs.Sound.{is_node_in, of_range}

-- ---- arguments

-- an id of 1 to 65,535
abbrev pub is_name : ℕ → Bool
is_name x = ltb super x

-- a path that a table may be given: without a super
abbrev pub is_new_path : List ℕ → Bool
is_new_path path = is_path path && not (has super path)

-- room for so many nodes and edges in all
unfoldable pub room : ℕ → ℕ → Bool
room nodes edges = leb nodes max_nodes && leb edges max_edges

-- "has no room for all the call needs": i more nodes, and j more edges
abbrev pub of_room : {A : Type 0} → (n k i j : ℕ) → A → Answer A
of_room n k i j a = pick (room (n + i) (k + j)) (Done a) (Refused no_room)

-- ---- the tests

module _ {A : Type 0} (n k : ℕ) (es : List Edge) where
  -- a new node below s, by the name x
  abbrev pub may_insert : (s x : ℕ) → A → Answer A
  may_insert s x a = of_range (is_node_in n k es s && is_name x) (of_room n k 1 1 a)

  -- the missing nodes of a path, all or none
  abbrev pub may_ensure : ℕ → List ℕ → A → Answer A
  may_ensure s path a =
      let missing = length (deepest es s path).1 in
      of_range (is_node_in n k es s && is_new_path path)
      (of_room n k missing missing a)

  -- "Export tests 1, 4, 3, 2": behind 1, an edge to the node from `at`, the deepest node that is there, under the name x, with so
  -- many nodes missing between; a node that is yet to be made has no edge
  unfoldable pub export_from : (node at missing x : ℕ) → A → Answer A
  export_from node at missing x a =
      pick (has node (chain es at)) (Refused loop)
      (pick (eqb missing 0 && taken es at x node) (Refused name_taken)
      (of_room n k missing (missing + 1) a))

-- an export path: where the new edge leaves, and its name
abbrev pub front : List ℕ → List ℕ
front path = take (length path - 1) path

abbrev pub last_id : List ℕ → ℕ
last_id path = get_or path (length path - 1) 0

-- a node is exported from s by a path; "Empty export path: 1"
abbrev pub may_export : {A : Type 0} → (n k : ℕ) → List Edge → (node s : ℕ) → List ℕ → A → Answer A
may_export n k es node s path a =
    let there = deepest es s (front path) in
    of_range (is_node_in n k es s && is_node_in n k es node && is_new_path path && ltb 0 (length path))
    (export_from n k es node there.0 (length there.1) (last_id path) a)
