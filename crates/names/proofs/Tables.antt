-- The table of a tape's names: what a declaration adds to it, and what stays as it was. Assumes nothing.
use Rattle.std.specs.Prelude.{Option, None, Some, is_some}
use mathlib.Core.Bool.{Bool, true, false, ◌&&◌}
use mathlib.Core.List.{List, [], ◌∷◌}
use mathlib.Core.Path.{◌≡◌, refl, ap, ◌∙◌, subst}
use Prim.Native.Nat.{ℕ, zero, suc, ◌+◌, ◌*◌, ◌≤◌, ◌<◌}
use native.Mathlib.Omega.{arith}
use lib.ListN.{length, get_or, set, replicate, length-replicate}
use borrow.Author.Tests.{lt-ltb, le-leb, lt-leb}
use Rattle.refusals.specs.Answer.{Answer, Done, Refused, pick, mapped}
use Rattle.refusals.specs.AnswerAt as At
use Rattle.refusals.specs.AnswerAt.{AnswerAt, Fine, Fault, and_then}
use Rattle.refusals.specs.Memory.{over}
use Rattle.refusals.specs.Table.{no_room}
use Rattle.refusals.proofs.Never.{never}
use Rattle.refusals.proofs.Pick.{done_missed, done_value}
use Rattle.symbols.specs.declared.SymbolTable.{SymbolTable}
use Rattle.edges.specs.Edges.{edges_in}
use Rattle.growth.specs.Growth.{is_name, room}
use Rattle.symbols.specs.Symbols.{edges_of, new, is_node, with_edge, with_node, inserted, insert}
use Rattle.soundness.proofs.Sound.{SoundEdges, sound_has}
use Rattle.symbols.proofs.Growing.{Sound, Place, inserted_sound, lengths_inserted, word_before, word_in}
use Rattle.symbols.proofs.Kept.{insert_has, new_sound, sound_table}
use Rattle.form.specs.Statements.{What, Statement, statements, placed, over_statements}
use Rattle.names.specs.Scopes.{Scopes, outermost, scope_of, scopes_after, scopes_behind}
use Rattle.names.specs.Names.{id_of, is_taken, declare, Declaring, declaring, declare_one}
use Rattle.names.specs.Steps.{table_of, declared_on}
use Rattle.names.proofs.Nesting.{names_after}

-- ---- an insert into the table of n names

set_same : {A : Type 0} (n i : ℕ) (x : A) → set (replicate n x) i x ≡ replicate n x
set_same zero i x = refl
set_same (suc n) zero x = refl
set_same (suc n) (suc i) x = ap (λ l. x ∷ l) (set_same n i x)

module _ (links : List ℕ) (n s x : ℕ) where
  -- the words with those of its edge
  abbrev grown : List ℕ
  grown = over links (3 * n) (s ∷ x ∷ (n + 1) ∷ [])

  -- no node has a number, the new one neither
  inserted_is : inserted (table_of links n) s x None ≡ table_of grown (n + 1)
  unfolding table_of with_edge with_node
  inserted_is i = record {
    nodes = n + 1 + 1;
    edges = n + 1;
    links = grown;
    numbers = set_same 1024 (n + 1) None i;
  }

  module _ (h : SoundEdges (n + 1) n (edges_in links n)) (node : s < n + 1) (name : 0 < x) where
    asked : (is_node (table_of links n) s && is_name x) ≡ true
    unfolding table_of
    asked = rw (sound_table (table_of links n) h, lt-ltb s (n + 1) node, lt-ltb 0 x name)

    pub insert_done : n + 1 < 1024 → insert (table_of links n) s x None ≡ Done (table_of grown (n + 1), n + 1)
    unfolding insert room table_of
    insert_done free =
        rw (asked, le-leb (n + 1 + 1) 1024 (omega arith), le-leb (n + 1) 2048 (omega arith))
        (ap (λ (t : SymbolTable). Done (t, n + 1)) inserted_is)

    pub insert_full : 1024 ≤ n + 1 → insert (table_of links n) s x None ≡ Refused no_room
    unfolding insert room table_of
    insert_full full = rw (asked, lt-leb (n + 1 + 1) 1024 (omega arith))

  -- the table is sound again
  pub grown_sound : SoundEdges (n + 1) n (edges_in links n) → s < n + 1 → 0 < x → n + 1 < 1024 → length links ≡ 6144
      → SoundEdges (n + 1 + 1) (n + 1) (edges_in grown (n + 1))
  unfolding table_of with_edge with_node
  grown_sound h node name free size =
      inserted_sound (table_of links n) s x None
      (record { is_sound = h; size = size; node = node; name = name; nodes = free; edges = omega arith })

-- ---- how many names are behind a statement

some_after : (s : Scopes) (x : What) → is_some (id_of x) ≡ true → (scopes_after s x).names ≡ s.names + 1
some_after s x e = names_after s x ∙ ap (λ (t : Bool). pick t (s.names + 1) s.names) e

after_more : (s : Scopes) (x : What) → s.names ≤ (scopes_after s x).names
after_more s x = go (is_some (id_of x)) (names_after s x)
  where
    go : (t : Bool) → (scopes_after s x).names ≡ pick t (s.names + 1) s.names → s.names ≤ (scopes_after s x).names
    go true e = omega arith
    go false e = omega arith

-- ---- from a state with the statements behind it

pub record Good (d : Declaring) : Type 0 where
  pub is_sound : Sound d.table
  pub size : length d.table.links ≡ 6144
  pub nodes : d.table.nodes ≡ d.scopes.names + 1
  pub edges : d.table.edges ≡ d.scopes.names

pub good_new : Good (declaring new outermost)
unfolding new
good_new = record {
  is_sound = sound_has new.nodes new.edges (edges_of new) new_sound;
  size = length-replicate {A = ℕ} 6144 0;
  nodes = refl;
  edges = refl;
}

-- the edge of what a statement declares leaves the innermost scope
abbrev pub Edge : List ℕ → Scopes → Option ℕ → Type 0
Edge links s o = is_some o ≡ true → (s.names + 1 < 1024) × (get_or links (3 * s.names) 0 ≡ scope_of s)

-- and so that of each statement
abbrev pub Written : List ℕ → Scopes → List Statement → Type 0
Written links s [] = Unit {0}
Written links s (x ∷ xs) = Edge links s (id_of x.says) × Written links (scopes_after s x.says) xs

-- the words of the names so far are the same
abbrev pub Same : Scopes → SymbolTable → SymbolTable → Type 0
Same s t u = (i : ℕ) → i < 3 * s.names → get_or u.links i 0 ≡ get_or t.links i 0

-- a declaration of an id, or of none, in the table t of s; u and e are the table and the scopes behind it
record Declares (t : SymbolTable) (s : Scopes) (o : Option ℕ) (u : SymbolTable) (e : Scopes) : Type 0 where
  good : Good (declaring u e)
  words : Same s t u
  edge : Edge u.links s o

declares_id : (t : SymbolTable) (s : Scopes) (x : ℕ) (e : Scopes) → Good (declaring t s) → Place t (scope_of s) x → e.names ≡ s.names + 1
    → Declares t s (Some x) (inserted t (scope_of s) x None) e
unfolding with_edge with_node
declares_id t s x e g place more = record {
  good = record {
    is_sound = inserted_sound t (scope_of s) x None place;
    size = ap (λ l. l.0) (lengths_inserted t (scope_of s) x None place) ∙ g.size;
    nodes = omega (arith, g.nodes);
    edges = omega (arith, g.edges);
  };
  words = λ i l. word_before t.links t.edges (scope_of s) x t.nodes g.size place.edges i (omega (arith, g.edges));
  edge = λ is.
      let first : 3 * s.names ≡ 3 * t.edges + 0 = omega (arith, g.edges) in (
        omega (arith, place.nodes, g.nodes),
        ap (λ (i : ℕ). get_or (inserted t (scope_of s) x None).links i 0) first
            ∙ word_in t.links t.edges (scope_of s) x t.nodes g.size place.edges 0,
      );
}

declares_by : (t u : SymbolTable) (s : Scopes) (o : Option ℕ) (e : Scopes) → Good (declaring t s) → declare t (scope_of s) o ≡ Done u
    → e.names ≡ pick (is_some o) (s.names + 1) s.names → Declares t s o u e
declares_by t u s None e g done names =
    subst (λ (v : SymbolTable). Declares t s None v e) (done_value done)
    (record {
      good = record { is_sound = g.is_sound; size = g.size; nodes = omega (arith, g.nodes); edges = omega (arith, g.edges) };
      words = λ i l. refl;
      edge = λ is. never (cc);
    })
declares_by t u s (Some x) e g done names =
    go (insert t (scope_of s) x None) refl (done_missed (is_taken t (scope_of s) x) _ _ done).1
  where
    go : (a : Answer (SymbolTable × ℕ)) → insert t (scope_of s) x None ≡ a → mapped (λ (m : SymbolTable × ℕ). m.0) a ≡ Done u
        → Declares t s (Some x) u e
    go (Done v) is done =
        let made = insert_has t (scope_of s) x None is g.size in
        subst (λ (v : SymbolTable). Declares t s (Some x) v e) (ap (λ m. m.0) made.1 ∙ done_value done)
        (declares_id t s x e g made.0 names)
    go (Refused n) is done = never (cc)

-- ---- a run over statements

pub record Ran (d : Declaring) (xs : List Statement) (e : Declaring) : Type 0 where
  pub good : Good e
  pub scopes : e.scopes ≡ scopes_behind d.scopes xs
  pub words : Same d.scopes d.table e.table
  pub written : Written e.table.links d.scopes xs

fine_value : {A : Type 0} {a b : A} → Fine a ≡ Fine b → a ≡ b
fine_value {A} {a} e = ap or_a e
  where
    or_a : AnswerAt A → A
    or_a (Fine b) = b
    or_a (Fault n at) = a

pub ran : (xs : List Statement) (d : Declaring) {e : Declaring} → Good d → over_statements Declaring declare_one d xs ≡ Fine e → Ran d xs e
unfolding declare_one
ran [] d g fine =
    subst (λ (e : Declaring). Ran d [] e) (fine_value fine) (record { good = g; scopes = refl; words = λ i l. refl; written = tt })
ran (x ∷ xs) d {e} g fine =
    go (λ u. ran xs (declaring u (scopes_after d.scopes x.says))) (declare d.table (scope_of d.scopes) (id_of x.says)) refl fine
  where
    next : SymbolTable → Declaring
    next u = declaring u (scopes_after d.scopes x.says)

    go : ((u : SymbolTable) → Good (next u) → over_statements Declaring declare_one (next u) xs ≡ Fine e → Ran (next u) xs e)
        → (a : Answer SymbolTable) → declare d.table (scope_of d.scopes) (id_of x.says) ≡ a
        → and_then (placed x.at (mapped next a)) (λ f. over_statements Declaring declare_one f xs) ≡ Fine e → Ran d (x ∷ xs) e
    go rest (Done u) is fine =
        let s : Scopes = d.scopes in
        let one = declares_by d.table u s (id_of x.says) (scopes_after s x.says) g is (names_after s x.says) in
        let all = rest u one.good fine in
        let more : s.names ≤ (scopes_after s x.says).names = after_more s x.says in
        record {
          good = all.good;
          scopes = all.scopes;
          words = λ i l. all.words i (omega arith) ∙ one.words i l;
          written = (
            λ is. let h = one.edge is in (h.0, all.words (3 * s.names) (omega (arith, some_after s x.says is)) ∙ h.1),
            all.written,
          );
        }
    go rest (Refused n) is fine = never (cc)

-- over a whole tape
pub declared_ran : (tape : List ℕ) {t : SymbolTable} → declared_on tape ≡ Fine t
    → (e : Declaring) × (e.table ≡ t) × Ran (declaring new outermost) (statements tape) e
unfolding declared_on
declared_ran tape {t} fine = go (over_statements Declaring declare_one (declaring new outermost) (statements tape)) refl fine
  where
    go : (a : AnswerAt Declaring) → over_statements Declaring declare_one (declaring new outermost) (statements tape) ≡ a
        → At.mapped (λ (d : Declaring). d.table) a ≡ Fine t
        → (e : Declaring) × (e.table ≡ t) × Ran (declaring new outermost) (statements tape) e
    go (Fine e) is fine = (e, fine_value fine, ran (statements tape) (declaring new outermost) good_new is)
    go (Fault n at) is fine = never (cc)
