-- What is noted of the names of a tape: at the offset of each, one more than the node that it reaches. The scope in which a name is
-- read is a function of its offset. Assumes nothing: these are definitions.
use Rattle.std.specs.Prelude.{ℕ, zero, suc, ◌+◌, true, List, ◌≡◌, ltb, length, get_or, set, Option, None, Some}
use Rattle.refusals.specs.Answer.{Answer, Done, Refused, pick}
use Rattle.edges.specs.Edges.{max_nodes}
use Rattle.tape.specs.Kinds.{is_name}
use Rattle.tape.specs.Record.{bytes_at}
use Rattle.lookup.specs.Lookup.{node_of}

-- ---- one record

-- what is noted of a node: one more than it, or 0 where there is none
abbrev pub noted : Answer (Option ℕ) → ℕ
noted (Done None) = 0
noted (Done (Some n)) = pick (ltb n max_nodes) (n + 1) 0
noted (Refused n) = 0

-- nodes, with the node of a record that is a name noted at its offset
unfoldable pub note_of : List ℕ → ℕ → List ℕ → List ℕ → ℕ → ℕ → List ℕ
note_of nodes at r links edges scope = pick (is_name (get_or r 0 0)) (set nodes at (noted (node_of links edges scope r))) nodes

-- ---- a tape

-- k records on from an offset
unfoldable pub onward : List ℕ → ℕ → ℕ → ℕ
onward tape zero at = at
onward tape (suc k) at = onward tape k (at + length (bytes_at tape at))

-- a name stands at an offset
unfoldable pub NameAt : List ℕ → ℕ → Type 0
NameAt tape at = is_name (get_or (bytes_at tape at) 0 0) ≡ true

-- at an offset of nodes stands what is noted of the name there
abbrev pub NotedAt : List ℕ → List ℕ → ℕ → ℕ → List ℕ → ℕ → Type 0
NotedAt tape links edges scope nodes at = NameAt tape at → get_or nodes at 0 ≡ noted (node_of links edges scope (bytes_at tape at))

-- of every name of a tape the node is noted
abbrev pub Resolved : List ℕ → List ℕ → ℕ → (ℕ → ℕ) → List ℕ → Type 0
Resolved tape links edges scope nodes =
    (k : ℕ) → NotedAt tape links edges (scope (onward tape k 0)) nodes (onward tape k 0)

-- the notes behind those of at most n records from an offset on: each in turn, if it is a name, with its node at its offset
unfoldable pub notes_from : (tape links : List ℕ) (edges : ℕ) (scope : ℕ → ℕ) → ℕ → ℕ → List ℕ → List ℕ
notes_from tape links edges scope zero at nodes = nodes
notes_from tape links edges scope (suc n) at nodes =
    let r = bytes_at tape at in
    notes_from tape links edges scope n (at + length r) (note_of nodes at r links edges (scope at))

-- of a whole tape: it has no more records than bytes
abbrev pub notes_of : (tape links : List ℕ) (edges : ℕ) (scope : ℕ → ℕ) → List ℕ → List ℕ
notes_of tape links edges scope nodes = notes_from tape links edges scope (length tape) 0 nodes
