-- The loop that notes the names: what each turn keeps, and the notes at each way out. Assumes nothing.
use Rattle.std.specs.Prelude.{is_some}
use mathlib.Core.Bool.{Bool, true, false}
use mathlib.Core.List.{List, [], ◌∷◌}
use mathlib.Core.Path.{◌≡◌, refl, sym, ap, ◌∙◌, subst}
use Prim.Native.Nat.{ℕ, zero, suc, ◌+◌, ◌*◌, ◌≤◌, ◌<◌}
use native.Mathlib.Omega.{arith}
use lib.Dec.{eqb}
use lib.ListN.{length, get_or}
use borrow.Author.Tests.{eqb-true, ne_eqb, lt-ltb, le-ltb}
use Rattle.refusals.specs.Answer.{pick}
use Rattle.refusals.specs.AnswerAt.{Fine}
use Rattle.symbols.specs.declared.SymbolTable.{SymbolTable}
use Rattle.symbols.proofs.Growing.{either_not}
use Rattle.tape.specs.Kinds.{is_name, end}
use Rattle.tape.specs.Record.{bytes_at}
use Rattle.form.specs.Form.{Pending, begin, after, tape_form}
use Rattle.form.specs.Statements.{What, Statement, statement_of, what_of, is_last, is_inner, statements, statements_from, statements_at}
use Rattle.form.proofs.Sound.{Sound, form_sound, sound_whole}
use Rattle.form.proofs.Statements.{statements_inner, statements_one, sound_on, sound_end}
use Rattle.lookup.specs.Notes.{note_of, notes_of}
use Rattle.lookup.proofs.Notes.{Noting, noting_start, noting_on, noting_past, note_other}
use Rattle.names.specs.declared.Walk.{Walk}
use Rattle.names.specs.Scopes.{Scopes, outermost, scope_of, scopes_after, scopes_behind, before, scope_at}
use Rattle.names.specs.Names.{id_of}
use Rattle.names.specs.Steps.{walk, walk_after, table_of, declared_on}
use Rattle.names.proofs.Nesting.{names_after, Nested, nested_after, walk_of, walk_statement, inner_walk, next_within}
use Rattle.names.proofs.Tables.{Edge, Written, declared_ran}

-- ---- which statements begin before an offset

-- none of those that follow it
none_before : (n : ℕ) (tape : List ℕ) (at j : ℕ) → j ≤ at → before j (statements_from n tape at) ≡ []
unfolding statements_from
none_before zero tape at j h = refl
none_before (suc n) tape at j h =
    let r = bytes_at tape at in
    go (is_last r) (is_inner r) r (statements_from n tape (at + length r)) (none_before n tape (at + length r) j (omega arith))
  where
    go : (a b : Bool) (r : List ℕ) (rest : List Statement) → before j rest ≡ []
        → before j (pick a [] (pick b rest (statement_of at r ∷ rest))) ≡ []
    go true b r rest none_there = refl
    go false true r rest none_there = none_there
    go false false r rest none_there = rw (le-ltb at j h)

-- a declaration leaves few names
few_after : (links : List ℕ) (s : Scopes) (x : What) → s.names + 1 ≤ 1024 → Edge links s (id_of x) → (scopes_after s x).names + 1 ≤ 1024
few_after links s x few edge = go (is_some (id_of x)) (names_after s x) edge
  where
    go : (t : Bool) → (scopes_after s x).names ≡ pick t (s.names + 1) s.names
        → (t ≡ true → (s.names + 1 < 1024) × (get_or links (3 * s.names) 0 ≡ scope_of s)) → (scopes_after s x).names + 1 ≤ 1024
    go true e edge = omega (arith, (edge refl).0)
    go false e edge = omega arith

-- ---- the loop: the scopes from here on, with this state, are those from the start

pub record Resolving (tape links : List ℕ) (edges : ℕ) (first nodes : List ℕ) (w : Walk) (at : ℕ) : Type 0 where
  pub s : Scopes
  pub p : Pending
  pub few : s.names + 1 ≤ 1024
  pub nested : Nested links s.names s.around
  pub written : Written links s (statements_at tape at)
  pub reached : (j : ℕ) → at ≤ j
      → scopes_behind outermost (before j (statements tape)) ≡ scopes_behind s (before j (statements_at tape at))
  pub noting : Noting tape links edges (scope_at tape) first nodes at
  pub walks : w ≡ walk_of s
  pub sound : Sound false tape p at

pub resolve_start : (tape links : List ℕ) (edges : ℕ) (nodes : List ℕ) {w : Walk} → tape_form tape ≡ Fine tt
    → declared_on tape ≡ Fine (table_of links edges) → w ≡ walk 0 0 → Resolving tape links edges nodes nodes w 0
unfolding table_of
resolve_start tape links edges nodes form declared e =
    let run = declared_ran tape declared in
    let words = ap (λ (t : SymbolTable). t.links) run.1 in
    record {
      s = outermost;
      p = begin false;
      few = omega arith;
      nested = tt;
      written = subst (λ (l : List ℕ). Written l outermost (statements tape)) words run.2.written;
      reached = λ j h. refl;
      noting = noting_start tape links edges (scope_at tape) nodes;
      walks = e;
      sound = form_sound false tape form;
    }

module _ {tape links : List ℕ} {edges : ℕ} {first nodes : List ℕ} {w : Walk} {at : ℕ}
    (f : Resolving tape links edges first nodes w at) where
  abbrev here : List ℕ
  here = bytes_at tape at

  -- the walk is in the scope in which the record here stands
  scope_here : w.scope ≡ scope_at tape at
  unfolding scope_at statements_at
  scope_here =
      ap (λ (v : Walk). v.scope) f.walks
      ∙ sym
      (ap scope_of
      (f.reached at (omega arith) ∙ ap (scopes_behind f.s) (none_before _ tape at at (omega arith))))

  module _ {r : List ℕ} (is : r ≡ bytes_at tape at) where
    pub resolve_last : is_last r ≡ true → at < length tape → nodes ≡ notes_of tape links edges (scope_at tape) first
    unfolding is_name
    resolve_last e inside =
        let whole = sound_whole false tape at f.p refl f.sound in
        let last : is_last here ≡ true = ap is_last (sym is) ∙ e in
        let ends : eqb (get_or here 0 0) end ≡ true = rw (ne_eqb (length here) 0 whole) at last in
        let no_name : is_name (get_or here 0 0) ≡ false = ap is_name (eqb-true (get_or here 0 0) end ends) in
        let same = note_other nodes at here links edges (scope_at tape at) refl no_name in
        noting_past tape links edges (scope_at tape) first
        (noting_on tape links edges (scope_at tape) first f.noting inside refl whole same)
        (omega (arith, sound_end tape at f.p f.sound ends))

    module _ (last : is_last r ≡ false) where
      not_last : is_last here ≡ false
      not_last = ap is_last (sym is) ∙ last

      pub resolve_on : at < length tape → {nodes' : List ℕ} {w' : Walk} → nodes' ≡ note_of nodes at r links edges w.scope
          → w' ≡ walk_after links w r → Resolving tape links edges first nodes' w' (at + length r)
      resolve_on inside {nodes'} {w'} noted behind = go (is_inner here) refl
        where
          some_bytes : 0 < length r
          some_bytes = (next_within tape at is last inside).0

          notes : Noting tape links edges (scope_at tape) first nodes' (at + length r)
          notes =
              noting_on tape links edges (scope_at tape) first f.noting inside is (λ z. omega (arith, some_bytes))
              (noted ∙ ap (note_of nodes at r links edges) scope_here)

          walked : w' ≡ walk_after links (walk_of f.s) here
          walked = behind ∙ (λ i. walk_after links (f.walks i) (is i))

          on : Sound false tape (after f.p here) (at + length r)
          on =
              subst (λ (n : ℕ). Sound false tape (after f.p here) (at + n)) (ap length (sym is))
              (sound_on tape at f.p f.sound (either_not (eqb (length here) 0) (eqb (get_or here 0 0) end) not_last).1)

          rest : statements_at tape (at + length here) ≡ statements_at tape (at + length r)
          rest = ap (λ (l : List ℕ). statements_at tape (at + length l)) (sym is)

          go : (t : Bool) → is_inner here ≡ t → Resolving tape links edges first nodes' w' (at + length r)
          go true inner =
              let same = statements_inner tape at not_last inner ∙ rest in
              record {
                s = f.s;
                p = after f.p here;
                few = f.few;
                nested = f.nested;
                written = subst (Written links f.s) same f.written;
                reached = λ j h. f.reached j (omega arith) ∙ ap (λ (l : List Statement). scopes_behind f.s (before j l)) same;
                noting = notes;
                walks = walked ∙ inner_walk here inner links (walk_of f.s);
                sound = on;
              }
          go false outer =
              let x : Statement = statement_of at here in
              let one = statements_one tape at not_last outer ∙ ap (λ (l : List Statement). x ∷ l) rest in
              let next : Scopes = scopes_after f.s (what_of here) in
              let edges-on = subst (Written links f.s) one f.written in
              record {
                s = next;
                p = after f.p here;
                few = few_after links f.s (what_of here) f.few edges-on.0;
                nested = nested_after links f.s (what_of here) f.nested (λ is. (edges-on.0 is).1);
                written = edges-on.1;
                reached = λ j h.
                    f.reached j (omega arith)
                    ∙ ap (λ (l : List Statement). scopes_behind f.s (before j l)) one
                    ∙ rw (lt-ltb at j (omega (arith, some_bytes)));
                noting = notes;
                walks = walked ∙ walk_statement links f.s here f.nested;
                sound = on;
              }

  -- past the end
  pub resolve_past : length tape ≤ at → nodes ≡ notes_of tape links edges (scope_at tape) first
  resolve_past h = noting_past tape links edges (scope_at tape) first f.noting h
