-- Once the names of a tape are resolved, what is noted of a name is the node that query finds from its scope: both ways to read the
-- expressions of the tape's statements agree. Assumes nothing.
use Rattle.std.specs.Prelude.{Option, None, Some}
use mathlib.Core.Bool.{Bool, true, false, and-eq-true_iff}
use mathlib.Core.List.{List, [], ◌∷◌}
use mathlib.Core.Path.{◌≡◌, refl, sym, ap, ◌∙◌, subst}
use Prim.Native.Nat.{ℕ, zero, suc, ◌+◌, ◌-◌, ◌≤◌, ◌<◌}
use native.Mathlib.Numerals.{add-one}
use native.Mathlib.Omega.{arith}
use lib.Dec.{ltb}
use lib.IntN.{ℤ}
use lib.ListN.{length, get_or, drop}
use borrow.Author.Tests.{le-leb, lt-ltb}
use Rattle.refusals.specs.Answer.{Done, pick}
use Rattle.refusals.specs.AnswerAt.{Fine}
use Rattle.refusals.specs.Each.{Each}
use Rattle.symbols.specs.declared.SymbolTable.{SymbolTable}
use Rattle.edges.specs.Edges.{query_of}
use Rattle.scopes.specs.Scopes.{query_edges}
use Rattle.symbols.specs.Symbols.{edges_of, is_node, sound}
use Rattle.symbols.proofs.Kept.{node_is, query_node}
use Rattle.tape.specs.Record.{bytes_at}
use Rattle.tape.proofs.Records.{record_most}
use Rattle.form.specs.Statements.{What, Instruction, Open, Close, Label, Constant, SetPlace, Byte, Word, Screen, Statement, statement_of, is_last, is_inner, statements_from, statements_at, statements}
use Rattle.lookup.specs.Lookup.{path_of, node_of}
use Rattle.lookup.specs.Notes.{onward, NameAt, noted, Resolved}
use Rattle.lookup.proofs.Notes.{onward_onward, onward_one}
use Rattle.lookup.proofs.Paths.{length_path}
use Rattle.evaluator.specs.Expression.{Meaning}
use Rattle.evaluator.proofs.Along.{expression_agrees}
use Rattle.names.specs.Scopes.{Scopes, outermost, scope_of, scopes_after, scopes_behind, before, scope_at}
use Rattle.names.specs.Names.{names_of}
use Rattle.names.proofs.Kept.{declared_sound, declared_count}
use Rattle.walk.specs.Numbers.{reached, reads_noted}
use Rattle.reads.specs.Reads.{reaches, number_in, reads_on}

-- ---- a scope is one of the nodes declared so far

-- no open scope is declared later than the n-th name
abbrev Low : List ℕ → ℕ → Type 0
Low l n = (i : ℕ) → get_or l i 0 ≤ n

low_drop : (l : List ℕ) (n : ℕ) → Low l n → Low (drop 1 l) n
low_drop [] n h i = h i
low_drop (a ∷ l) n h i = h (suc i)

low_more : (l : List ℕ) (n : ℕ) → Low l n → Low l (suc n)
low_more l n h i = omega (arith, h i)

low_onto : (l : List ℕ) (n : ℕ) → Low l n → Low (suc n ∷ l) (suc n)
low_onto l n h zero = omega arith
low_onto l n h (suc i) = omega (arith, h i)

-- nor is one behind a statement, and names are only added
low_after : (s : Scopes) (x : What) → Low s.around s.names
    → Low (scopes_after s x).around (scopes_after s x).names × (s.names ≤ (scopes_after s x).names)
low_after s (Open id) h = (low_onto s.around s.names h, omega arith)
low_after s Close h = (low_drop s.around s.names h, omega arith)
low_after s (Label id) h = (low_more s.around s.names h, omega arith)
low_after s (Constant id) h = (low_more s.around s.names h, omega arith)
low_after s (Instruction mnemonic mode suffix) h = (h, omega arith)
low_after s SetPlace h = (h, omega arith)
low_after s Byte h = (h, omega arith)
low_after s Word h = (h, omega arith)
low_after s (Screen petscii) h = (h, omega arith)

-- behind the statements before an offset, the innermost scope is among the names of all of them
low_before : (at : ℕ) (s : Scopes) (xs : List Statement) → Low s.around s.names
    → (scope_of (scopes_behind s (before at xs)) ≤ (scopes_behind s xs).names) × (s.names ≤ (scopes_behind s xs).names)
low_before at s [] h = (h 0, omega arith)
low_before at s (x ∷ xs) h =
    let one = low_after s x.says h in
    let rest = low_before at (scopes_after s x.says) xs one.0 in
    (go (ltb x.at at) rest.0 (omega (arith, h 0, one.1, rest.1)), omega (arith, one.1, rest.1))
  where
    go : (t : Bool) → scope_of (scopes_behind (scopes_after s x.says) (before at xs)) ≤ (scopes_behind (scopes_after s x.says) xs).names
        → scope_of s ≤ (scopes_behind (scopes_after s x.says) xs).names
        → scope_of (scopes_behind s (pick t (x ∷ before at xs) [])) ≤ (scopes_behind (scopes_after s x.says) xs).names
    go true a b = a
    go false a b = b

-- ---- where expressions begin

-- an expression of a statement begins at a record of the tape
Begins : List ℕ → Statement → Type 0
Begins tape x = (k : ℕ) × (x.expression ≡ onward tape k 0)

begin_from : (n : ℕ) (tape : List ℕ) (at j : ℕ) → at ≡ onward tape j 0 → Each (Begins tape) (statements_from n tape at)
unfolding statements_from Begins
begin_from zero tape at j e = tt
begin_from (suc n) tape at j e =
    let r = bytes_at tape at in
    let on : at + length r ≡ onward tape (suc j) 0 =
    ap (λ (i : ℕ). i + length (bytes_at tape i)) e ∙ sym (onward_one tape j 0) in
    go (is_last r) (is_inner r) _ (suc j, on) (begin_from n tape (at + length r) (suc j) on)
  where
    go : (a b : Bool) (xs : List Statement) → Begins tape (statement_of at (bytes_at tape at)) → Each (Begins tape) xs
        → Each (Begins tape) (pick a [] (pick b xs (statement_of at (bytes_at tape at) ∷ xs)))
    go true b xs here rest = tt
    go false true xs here rest = rest
    go false false xs here rest = (here, rest)

-- ---- both readings

-- one more than a node, or 0
abbrev one_more : Option ℕ → ℕ
one_more None = 0
one_more (Some n) = suc n

noted_is : (r : Option ℕ) → ((n : ℕ) → r ≡ Some n → n < 1024) → noted (Done r) ≡ one_more r
noted_is None h = refl
noted_is (Some n) h = rw (lt-ltb n 1024 (h n refl), add-one n)

reached_is : (numbers : ℕ → Option ℤ) (r : Option ℕ) → reached numbers (one_more r) ≡ number_in numbers r
reached_is numbers None = refl
reached_is numbers (Some n) = refl

each_map : {A : Type 0} {P Q : A → Type 0} → ((a : A) → P a → Q a) → (l : List A) → Each P l → Each Q l
each_map f [] h = tt
each_map f (a ∷ l) h = (f a h.0, each_map f l h.1)

module _ (tape : List ℕ) {t : SymbolTable} (fine : names_of tape ≡ Fine t) where
  scope_node : (at : ℕ) → is_node t (scope_at tape at) ≡ true
  unfolding scope_at
  scope_node at =
      let below = (low_before at outermost (statements tape) (λ i. omega arith)).0 in
      let inside : scope_at tape at < t.nodes = omega (arith, below, (declared_count tape fine).0) in
      (and-eq-true_iff (sound t) (ltb (scope_at tape at) t.nodes)).1 (declared_sound tape fine, lt-ltb _ _ inside)

  -- a name's path is no longer than a query takes, and what it finds is a node of the table
  note_is : (at : ℕ) → noted (node_of t.links t.edges (scope_at tape at) (bytes_at tape at)) ≡ one_more (reaches tape t at)
  unfolding node_of query_edges reaches
  note_is at =
      let scope = scope_at tape at in
      let path = path_of (bytes_at tape at) in
      let is = node_is t scope (scope_node at) in
      let few : length path ≤ 4 = omega (arith, length_path (bytes_at tape at), record_most tape at) in
      rw (le-leb t.edges 2048 is.0.few_edges, le-leb (length path) 4 few)
      (noted_is (query_of (edges_of t) scope path) (λ n e. omega (arith, query_node t scope path (scope_node at) e, is.0.few_nodes)))

  module _ (nodes : List ℕ) (resolved : Resolved tape t.links t.edges (scope_at tape) nodes) where
    reads_alike : (x : Statement) → Begins tape x → (numbers : ℕ → Option ℤ) (place : ℤ)
        → reads_noted tape nodes numbers place x.expression ≡ reads_on tape t numbers place x.expression
    unfolding reads_noted reads_on Begins
    reads_alike x (k, e) numbers place =
        ap (λ (m : Meaning). m.1)
        (expression_agrees tape (λ i. reached numbers (get_or nodes i 0)) (λ i. number_in numbers (reaches tape t i)) place 64 x.expression
        (λ j name.
        let here : onward tape j x.expression ≡ onward tape (j + k) 0 = ap (onward tape j) e ∙ onward_onward tape j k 0 in
        subst (λ (i : ℕ). NameAt tape i → reached numbers (get_or nodes i 0) ≡ number_in numbers (reaches tape t i)) (sym here)
        (λ n. ap (reached numbers) (resolved (j + k) n ∙ note_is (onward tape (j + k) 0)) ∙ reached_is numbers (reaches tape t (onward tape (j + k) 0)))
        name))

    -- the readings agree at every statement of the tape
    pub all_alike : Each (λ x. (numbers : ℕ → Option ℤ) (place : ℤ)
        → reads_noted tape nodes numbers place x.expression ≡ reads_on tape t numbers place x.expression) (statements tape)
    unfolding statements_at onward
    all_alike = each_map reads_alike (statements tape) (begin_from (length tape - 0) tape 0 0 refl)
