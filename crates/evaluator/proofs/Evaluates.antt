-- An expression alone: noting the nodes first changes nothing, and in a sound table they are those that query finds.
-- Assumes nothing.
use Rattle.std.specs.Prelude.{Option, None, Some}
use mathlib.Core.Bool.{true}
use mathlib.Core.List.{List}
use mathlib.Core.Path.{◌≡◌, refl, sym, ap, ◌∙◌}
use Prim.Native.Nat.{ℕ, ◌≤◌, ◌<◌}
use native.Mathlib.Numerals.{add-one}
use native.Mathlib.Omega.{arith}
use lib.IntN.{ℤ}
use lib.ListN.{length}
use borrow.Author.Tests.{le-leb, lt-ltb}
use Rattle.refusals.specs.Answer.{Answer, Done}
use Rattle.refusals.specs.AnswerAt.{AnswerAt, Fine}
use Rattle.symbols.specs.declared.SymbolTable.{SymbolTable}
use Rattle.edges.specs.Edges.{query_of}
use Rattle.scopes.specs.Scopes.{query_edges}
use Rattle.symbols.specs.Symbols.{edges_of, is_node}
use Rattle.symbols.proofs.Kept.{node_is, query_node}
use Rattle.tape.specs.Record.{bytes_at}
use Rattle.tape.proofs.Records.{record_most}
use Rattle.form.specs.Form.{expression_form}
use Rattle.lookup.specs.Lookup.{path_of, node_of}
use Rattle.lookup.specs.Notes.{onward, noted, notes_of}
use Rattle.lookup.proofs.Notes.{notes_resolved}
use Rattle.lookup.proofs.Paths.{length_path}
use Rattle.evaluator.specs.Expression.{Value, Meaning, expression}
use Rattle.evaluator.specs.Evaluate.{read, by_node, from_nodes, from_scope, expression_at, answered, evaluate_of}
use Rattle.evaluator.specs.Steps.{value_from}
use Rattle.evaluator.proofs.Along.{expression_agrees}

-- ---- by the nodes that are noted

-- the number of what is noted of the name at an offset
abbrev found_by : List ℕ → List ℕ → ℕ → ℕ → List (Option ℤ) → ℕ → Option ℤ
found_by bytes links edges scope numbers at = by_node numbers (noted (node_of links edges scope (bytes_at bytes at)))

pub value_noted : (bytes links first : List ℕ) (edges scope : ℕ) (numbers : List (Option ℤ)) (place : ℤ)
    → length bytes ≤ length first → {nodes : List ℕ} → nodes ≡ notes_of bytes links edges (λ i. scope) first
    → {m : Meaning} → m ≡ expression_at bytes nodes numbers place 0
    → m.1 ≡ value_from bytes links edges numbers scope place
unfolding expression_at value_from from_nodes
value_noted bytes links first edges scope numbers place room {nodes} new pm =
    let resolved = notes_resolved bytes links edges (λ i. scope) first room in
    ap (λ (m : Meaning). m.1)
    (pm
    ∙ ap (λ (l : List ℕ). expression_at bytes l numbers place 0) new
    ∙ expression_agrees bytes (from_nodes (notes_of bytes links edges (λ i. scope) first) numbers)
    (found_by bytes links edges scope numbers) place 64 0
    (λ k name. ap (by_node numbers) (resolved k name)))

-- ---- in a sound table

module _ (t : SymbolTable) (scope : ℕ) (h : is_node t scope ≡ true) (bytes : List ℕ) where
  -- a name's path is no longer than a query takes
  node_found : (at : ℕ)
      → node_of t.links t.edges scope (bytes_at bytes at) ≡ Done (query_of (edges_of t) scope (path_of (bytes_at bytes at)))
  unfolding node_of query_edges
  node_found at =
      let few : length (path_of (bytes_at bytes at)) ≤ 4 = omega (arith, length_path (bytes_at bytes at), record_most bytes at) in
      rw (le-leb _ _ (node_is t scope h).0.few_edges, le-leb _ 4 few)

  -- and what it finds is a node of the table
  number_found : (r : Option ℕ) → ((n : ℕ) → r ≡ Some n → n < 1024) → by_node t.numbers (noted (Done r)) ≡ read t r
  number_found None f = refl
  number_found (Some n) f = rw (lt-ltb n 1024 (f n refl), add-one n, lt-ltb n 1024 (f n refl))

  names_agree : (at : ℕ) → found_by bytes t.links t.edges scope t.numbers at ≡ from_scope t scope bytes at
  unfolding from_scope
  names_agree at =
      ap (λ (a : Answer (Option ℕ)). by_node t.numbers (noted a)) (node_found at)
      ∙ number_found (query_of (edges_of t) scope (path_of (bytes_at bytes at)))
      (λ n e. omega (arith, query_node t scope (path_of (bytes_at bytes at)) h e, (node_is t scope h).0.few_nodes))

  pub value_found : (place : ℤ) → value_from bytes t.links t.edges t.numbers scope place
      ≡ (expression bytes (from_scope t scope bytes) place 64 0).1
  unfolding value_from
  value_found place =
      ap (λ (m : Meaning). m.1)
      (expression_agrees bytes (found_by bytes t.links t.edges scope t.numbers) (from_scope t scope bytes) place 64 0
      (λ k name. names_agree (onward bytes k 0)))

-- ---- the call

module _ (bytes : List ℕ) (t : SymbolTable) (scope : ℕ) (place : ℤ) (h : is_node t scope ≡ true) where
  pub evaluate_value : Fine tt ≡ expression_form bytes → {v : Value} → v ≡ value_from bytes t.links t.edges t.numbers scope place
      → {a : AnswerAt ℤ} → a ≡ answered v → a ≡ evaluate_of bytes t scope place
  unfolding evaluate_of
  evaluate_value e pv pa = pa ∙ ap answered (pv ∙ value_found t scope h bytes place) ∙ sym (rw (h, ← e))
