-- What one statement of a sound tape does: the state, by the code's refusal, its words and its walk. Assumes nothing.
use Rattle.std.specs.Prelude.{None, Some}
use mathlib.Core.Bool.{Bool, true, false, ◌||◌}
use mathlib.Core.List.{List, [], ◌∷◌}
use mathlib.Core.Path.{◌≡◌, refl, sym, ap, ◌∙◌, subst}
use Prim.Native.Nat.{ℕ, ◌+◌, ◌*◌, ◌≤◌, ◌<◌}
use native.Mathlib.Omega.{arith}
use lib.Dec.{eqb, ltb}
use lib.ListN.{length, get_or}
use borrow.Author.Tests.{eqb-true, eqb-false, ltb-true, ltb-false}
use Rattle.refusals.specs.Answer.{Done, Refused, pick, mapped}
use Rattle.refusals.specs.Memory.{over}
use Rattle.refusals.specs.Table.{bad_record, no_room, name_taken}
use Rattle.refusals.proofs.Memory.{length_over}
use Rattle.refusals.proofs.Never.{never}
use Rattle.little.specs.Little.{number_at}
use Rattle.symbols.specs.declared.SymbolTable.{SymbolTable}
use Rattle.edges.specs.Edges.{edges_in}
use Rattle.symbols.specs.Symbols.{insert}
use Rattle.soundness.proofs.Sound.{SoundEdges}
use Rattle.symbols.proofs.Growing.{word_before, word_in}
use Rattle.tape.specs.Kinds.{is_name, open_scope, label, constant}
use Rattle.form.specs.Form as form
use Rattle.form.specs.Form.{declares, id_fault, body_fault, scope_fault}
use Rattle.form.specs.Statements.{statement_of, what_of}
use Rattle.form.proofs.Faults.{Other, body_id}
use Rattle.names.specs.declared.Walk.{Walk}
use Rattle.names.specs.Scopes.{Scopes, scope_of, scopes_after}
use Rattle.names.specs.Names.{id_of, is_taken, declare, Declaring, declaring, declare_one}
use Rattle.names.specs.Steps.{taken_in, fault_of, edges_after, table_of}
use Rattle.names.proofs.Nesting.{said, said_some, names_after, Nested, nested_scope, nested_more, nested_after, walk_of}
use Rattle.names.proofs.Tables.{insert_done, insert_full, grown_sound}

-- ---- the id of a declaration that the form accepts

declares_kind : (P : ℕ → Type 0) (k : ℕ) → declares k ≡ true → P open_scope → P label → P constant → P k
unfolding declares
declares_kind P k e a b d = go (eqb k open_scope) (eqb k label) refl refl e
  where
    go : (o l : Bool) → eqb k open_scope ≡ o → eqb k label ≡ l → (o || l || eqb k constant) ≡ true → P k
    go true l p q e = subst P (sym (eqb-true k open_scope p)) a
    go false true p q e = subst P (sym (eqb-true k label q)) b
    go false false p q e = subst P (sym (eqb-true k constant e)) d

-- such a kind is none of those that are tested before
other_kind : (k : ℕ) → declares k ≡ true → Other k × (is_name k ≡ false)
unfolding is_name
other_kind k e =
    let is : (64 < k) × (is_name k ≡ false) =
    declares_kind (λ (k : ℕ). (64 < k) × (is_name k ≡ false)) k e (omega arith, refl) (omega arith, refl) (omega arith, refl) in
    let large = is.0 in
    (record { no_instruction = λ z. omega arith; no_flags = λ z. omega arith; no_binary = λ z. omega arith }, is.1)

pub id_some : (n : ℕ) (r : List ℕ) → form.fault_of n r ≡ 0 → declares (get_or r 0 0) ≡ true → 0 < number_at 2 r 1
unfolding form.fault_of id_fault
id_some n r sound e =
    let k = other_kind (get_or r 0 0) e in
    let is = body_id r (get_or r 0 0) refl k.0 k.1 e (number_at 2 r 1) refl in
    named (eqb (number_at 2 r 1) 0) refl (is ∙ body (eqb (body_fault r) 0) refl sound)
  where
    body : (t : Bool) → eqb (body_fault r) 0 ≡ t → pick t (scope_fault n (get_or r 0 0)) (body_fault r) ≡ 0 → body_fault r ≡ 0
    body true p e = eqb-true (body_fault r) 0 p
    body false p e = e

    named : (t : Bool) → eqb (number_at 2 r 1) 0 ≡ t → pick t bad_record 0 ≡ 0 → 0 < number_at 2 r 1
    named true p e = absurd (omega arith)
    named false p e = omega (arith, eqb-false (number_at 2 r 1) 0 p)

-- ---- the state

-- the words of the edges, and the scopes
abbrev pub standing : List ℕ → Scopes → Declaring
standing links s = declaring (table_of links s.names) s

pub record Held (links : List ℕ) (s : Scopes) : Type 0 where
  pub size : length links ≡ 6144
  pub is_sound : SoundEdges (s.names + 1) s.names (edges_in links s.names)
  pub nested : Nested links s.names s.around

-- ---- a statement of the record r

module _ (links : List ℕ) (s : Scopes) (h : Held links s) (at : ℕ) (r : List ℕ) where
  abbrev w : Walk
  w = walk_of s

  abbrev id : ℕ
  id = number_at 2 r 1

  abbrev next : Scopes
  next = scopes_after s (what_of r)

  abbrev words : List ℕ
  words = edges_after links w r

  scope_few : scope_of s < s.names + 1
  scope_few = omega (arith, nested_scope links s.names s.around h.nested)

  -- it declares nothing
  module _ (e : declares (get_or r 0 0) ≡ false) where
    same_names : next.names ≡ s.names
    same_names = names_after s (what_of r) ∙ rw (said_some r, e)

    same_words : words ≡ links
    unfolding edges_after
    same_words = rw e

    one_plain : declare_one (standing links s) (statement_of at r) ≡ Done (standing words next)
    unfolding declare_one
    one_plain =
        let no-id : id_of (what_of r) ≡ None = (said r).id ∙ rw e in
        let back = sym same_words in
        let names = sym same_names in
        ap (λ o. mapped (λ (t : SymbolTable). declaring t next) (declare (table_of links s.names) (scope_of s) o)) no-id
        ∙ (λ i. Done (declaring (table_of (back i) (names i)) next))

    held_plain : Held words next
    held_plain = record {
      size = ap length same_words ∙ h.size;
      is_sound = rw (same_words, same_names) h.is_sound;
      nested =
          rw same_words
          (nested_after links s (what_of r) h.nested (λ is. let no : false ≡ true = sym (said_some r ∙ e) ∙ is in never (cc)));
    }

  -- it declares its id
  module _ (e : declares (get_or r 0 0) ≡ true) where
    more_names : next.names ≡ s.names + 1
    more_names = names_after s (what_of r) ∙ rw (said_some r, e)

    more_words : words ≡ over links (3 * s.names) (scope_of s ∷ id ∷ (s.names + 1) ∷ [])
    unfolding edges_after
    more_words = rw e

    one_named : declare_one (standing links s) (statement_of at r)
        ≡ mapped (λ (t : SymbolTable). declaring t next)
        (pick (taken_in links s.names (scope_of s) id) (Refused name_taken)
        (mapped (λ m. m.0) (insert (table_of links s.names) (scope_of s) id None)))
    unfolding declare_one is_taken taken_in table_of
    one_named =
        let named : id_of (what_of r) ≡ Some id = (said r).id ∙ rw e in
        ap (λ o. mapped (λ (t : SymbolTable). declaring t next) (declare (table_of links s.names) (scope_of s) o)) named

    one_done : 0 < id → taken_in links s.names (scope_of s) id ≡ false → s.names + 1 < 1024
        → declare_one (standing links s) (statement_of at r) ≡ Done (standing words next)
    one_done some_id free room =
        let back = sym more_words in
        let names = sym more_names in
        one_named
        ∙ (λ i. mapped (λ (t : SymbolTable). declaring t next)
        (pick (free i) (Refused name_taken)
        (mapped (λ m. m.0) (insert_done links s.names (scope_of s) id h.is_sound scope_few some_id room i))))
        ∙ (λ i. Done (declaring (table_of (back i) (names i)) next))

    one_full : 0 < id → taken_in links s.names (scope_of s) id ≡ false → 1024 ≤ s.names + 1
        → declare_one (standing links s) (statement_of at r) ≡ Refused no_room
    one_full some_id free full =
        one_named
        ∙ (λ i. mapped (λ (t : SymbolTable). declaring t next)
        (pick (free i) (Refused name_taken)
        (mapped (λ m. m.0) (insert_full links s.names (scope_of s) id h.is_sound scope_few some_id full i))))

    one_taken : taken_in links s.names (scope_of s) id ≡ true → declare_one (standing links s) (statement_of at r) ≡ Refused name_taken
    one_taken taken =
        one_named
        ∙ (λ i. mapped (λ (t : SymbolTable). declaring t next)
        (pick (taken i) (Refused name_taken)
        (mapped (λ m. m.0) (insert (table_of links s.names) (scope_of s) id None))))

    -- the words with its edge
    abbrev more : List ℕ
    more = over links (3 * s.names) (scope_of s ∷ id ∷ (s.names + 1) ∷ [])

    free : s.names < 2048
    free = omega (arith, h.is_sound.few_nodes)

    nested_named : Nested more s.names s.around
    nested_named =
        nested_more links more s.names s.names s.around (omega arith)
        (word_before links s.names (scope_of s) id (s.names + 1) h.size free) h.nested

    held_named : 0 < id → s.names + 1 < 1024 → Held words next
    held_named some_id room =
        let n : ℕ = s.names in
        let first : 3 * n ≡ 3 * n + 0 = omega arith in
        let word = ap (λ (i : ℕ). get_or more i 0) first ∙ word_in links n (scope_of s) id (n + 1) h.size free 0 in
        record {
          size = ap length more_words ∙ length_over links (3 * n) (scope_of s ∷ id ∷ (n + 1) ∷ []) (omega (arith, h.size)) ∙ h.size;
          is_sound = rw (more_words, more_names) (grown_sound links n (scope_of s) id h.is_sound scope_few some_id room h.size);
          nested = rw more_words (nested_after more s (what_of r) nested_named (λ is. word));
        }

  -- the open scopes are in the words as before
  pub nested_words : Nested words s.names s.around
  nested_words = go (declares (get_or r 0 0)) refl
    where
      go : (d : Bool) → declares (get_or r 0 0) ≡ d → Nested words s.names s.around
      go true e = rw (more_words e) (nested_named e)
      go false e = rw (same_words e) h.nested

  -- its refusal is that of the code
  fault_by : (d t b : Bool) → declares (get_or r 0 0) ≡ d → taken_in links s.names (scope_of s) id ≡ t → ltb (s.names + 1) 1024 ≡ b
      → fault_of links w r ≡ pick d (pick t name_taken (pick b 0 no_room)) 0
  unfolding fault_of
  fault_by d t b p q e = rw (p, q, e)

  module _ (some_id : declares (get_or r 0 0) ≡ true → 0 < id) where
    pub one_refused : (fault_of links w r ≡ 0 → ⊥) → declare_one (standing links s) (statement_of at r) ≡ Refused (fault_of links w r)
    one_refused z = go (declares (get_or r 0 0)) (taken_in links s.names (scope_of s) id) (ltb (s.names + 1) 1024) refl refl refl
      where
        go : (d t b : Bool) → declares (get_or r 0 0) ≡ d → taken_in links s.names (scope_of s) id ≡ t → ltb (s.names + 1) 1024 ≡ b
            → declare_one (standing links s) (statement_of at r) ≡ Refused (fault_of links w r)
        go false t b p q e = absurd (z (fault_by false t b p q e))
        go true true b p q e = one_taken p q ∙ ap Refused (sym (fault_by true true b p q e))
        go true false true p q e = absurd (z (fault_by true false true p q e))
        go true false false p q e =
            one_full p (some_id p) q (ltb-false (s.names + 1) 1024 e) ∙ ap Refused (sym (fault_by true false false p q e))

    pub one_accepted : fault_of links w r ≡ 0
        → (declare_one (standing links s) (statement_of at r) ≡ Done (standing words next)) × Held words next
    one_accepted z = go (declares (get_or r 0 0)) (taken_in links s.names (scope_of s) id) (ltb (s.names + 1) 1024) refl refl refl
      where
        go : (d t b : Bool) → declares (get_or r 0 0) ≡ d → taken_in links s.names (scope_of s) id ≡ t → ltb (s.names + 1) 1024 ≡ b
            → (declare_one (standing links s) (statement_of at r) ≡ Done (standing words next)) × Held words next
        go false t b p q e = (one_plain p, held_plain p)
        go true true b p q e = absurd (omega (arith, fault_by true true b p q e))
        go true false true p q e =
            let room = ltb-true (s.names + 1) 1024 e in
            (one_done p (some_id p) q room, held_named p (some_id p) room)
        go true false false p q e = absurd (omega (arith, fault_by true false false p q e))
