-- The loop that writes the edges: what each turn keeps, and the answer at each way out. Assumes nothing.
use mathlib.Core.Bool.{Bool, true, false}
use mathlib.Core.List.{List, []}
use mathlib.Core.Path.{◌≡◌, refl, sym, ap, ◌∙◌, subst}
use Prim.Native.Nat.{ℕ, ◌+◌, ◌≤◌, ◌<◌}
use lib.Dec.{eqb}
use lib.ListN.{length, get_or, replicate, length-replicate}
use Rattle.refusals.specs.Answer.{Answer, Refused}
use Rattle.refusals.specs.AnswerAt as At
use Rattle.refusals.specs.AnswerAt.{AnswerAt, Fine, Fault, and_then}
use Rattle.little.specs.Little.{number_at}
use Rattle.edges.specs.Edges.{edges_in}
use Rattle.symbols.specs.Symbols.{edges_of, new}
use Rattle.soundness.proofs.Sound.{sound_has}
use Rattle.symbols.proofs.Growing.{either_not}
use Rattle.symbols.proofs.Kept.{new_sound}
use Rattle.tape.specs.Kinds.{end}
use Rattle.tape.specs.Record.{bytes_at}
use Rattle.form.specs.Form.{Pending, begin, after, declares, tape_form}
use Rattle.form.specs.Statements.{Statement, what_of, is_last, is_inner, statements, statements_at, placed, over_statements}
use Rattle.form.proofs.Sound.{Sound, form_sound, sound_fault}
use Rattle.form.proofs.Statements.{statements_past, statements_last, statements_inner, statements_one, sound_on}
use Rattle.names.specs.declared.Walk.{Walk}
use Rattle.names.specs.Scopes.{Scopes, outermost, scopes_after}
use Rattle.names.specs.Names.{Declaring, declaring, declare_one}
use Rattle.names.specs.Steps.{walk, walk_after, fault_of, edges_after, table_of, declared_on}
use Rattle.names.proofs.Nesting.{walk_of, walk_statement, inner_walk, inner_edges, inner_fault}
use Rattle.names.proofs.Standing.{id_some, standing, Held, nested_words, one_refused, one_accepted}

-- ---- the loop: what the statements from here on declare, with this state, is what all declare

abbrev declare_all : Declaring → List Statement → AnswerAt Declaring
declare_all d xs = over_statements Declaring declare_one d xs

pub record Filling (tape links : List ℕ) (w : Walk) (at : ℕ) : Type 0 where
  pub s : Scopes
  pub p : Pending
  pub same : declare_all (declaring new outermost) (statements tape) ≡ declare_all (standing links s) (statements_at tape at)
  pub held : Held links s
  pub walks : w ≡ walk_of s
  pub sound : Sound false tape p at

pub fill_start : (tape : List ℕ) {links : List ℕ} {w : Walk} → tape_form tape ≡ Fine tt → links ≡ replicate 6144 0 → w ≡ walk 0 0
    → Filling tape links w 0
unfolding new table_of edges_in
fill_start tape form zeros e = record {
  s = outermost;
  p = begin false;
  same = ap (λ (l : List ℕ). declare_all (standing l outermost) (statements tape)) (sym zeros);
  held = record {
    size = ap length zeros ∙ length-replicate {A = ℕ} 6144 0;
    is_sound = sound_has new.nodes new.edges (edges_of new) new_sound;
    nested = tt;
  };
  walks = e;
  sound = form_sound false tape form;
}

module _ {tape links : List ℕ} {w : Walk} {at : ℕ} (f : Filling tape links w at) where
  abbrev here : List ℕ
  here = bytes_at tape at

  ends : statements_at tape at ≡ [] → Fine (table_of links w.names) ≡ declared_on tape
  unfolding declared_on
  ends none_left =
      let names = ap (λ (v : Walk). v.names) f.walks in
      let all = f.same ∙ ap (declare_all (standing links f.s)) none_left in
      (λ i. Fine (table_of links (names i))) ∙ ap (At.mapped (λ d. d.table)) (sym all)

  pub fill_past : length tape ≤ at → Fine (table_of links w.names) ≡ declared_on tape
  fill_past h = ends (statements_past tape at h)

  module _ {r : List ℕ} (is : r ≡ bytes_at tape at) where
    pub fill_last : is_last r ≡ true → Fine (table_of links w.names) ≡ declared_on tape
    fill_last e = ends (statements_last tape at (ap is_last (sym is) ∙ e))

    module _ (last : is_last r ≡ false) where
      not_last : is_last here ≡ false
      not_last = ap is_last (sym is) ∙ last

      some_id : declares (get_or here 0 0) ≡ true → 0 < number_at 2 here 1
      some_id e = id_some f.p.scopes here (sound_fault false tape at f.p refl f.sound) e

      pub fill_refused : {v : ℕ} → v ≡ fault_of links w r → (v ≡ 0 → ⊥) → Fault v at ≡ declared_on tape
      unfolding declared_on
      fill_refused {v} told z = go (is_inner here) refl
        where
          fault : v ≡ fault_of links (walk_of f.s) here
          fault = told ∙ (λ i. fault_of links (f.walks i) (is i))

          go : (t : Bool) → is_inner here ≡ t → Fault v at ≡ declared_on tape
          go true inner = absurd (z (fault ∙ inner_fault here inner links (walk_of f.s)))
          go false outer =
              let refused = one_refused links f.s f.held at here some_id (λ e. z (fault ∙ e)) ∙ ap Refused (sym fault) in
              let rest : List Statement = statements_at tape (at + length here) in
              sym
              (ap (At.mapped (λ d. d.table))
              (f.same
              ∙ ap (declare_all (standing links f.s)) (statements_one tape at not_last outer)
              ∙ ap (λ (a : Answer Declaring). and_then (placed at a) (λ t. declare_all t rest)) refused))

      pub fill_on : {v : ℕ} → v ≡ fault_of links w r → v ≡ 0 → {links' : List ℕ} {w' : Walk} → links' ≡ edges_after links w r
          → w' ≡ walk_after links' w r → Filling tape links' w' (at + length r)
      fill_on {v} told z {links'} {w'} put behind = go (is_inner here) refl
        where
          fault : fault_of links (walk_of f.s) here ≡ 0
          fault = sym (told ∙ (λ i. fault_of links (f.walks i) (is i))) ∙ z

          words : links' ≡ edges_after links (walk_of f.s) here
          words = put ∙ (λ i. edges_after links (f.walks i) (is i))

          walked : w' ≡ walk_after links' (walk_of f.s) here
          walked = behind ∙ (λ i. walk_after links' (f.walks i) (is i))

          on : Sound false tape (after f.p here) (at + length r)
          on =
              subst (λ (n : ℕ). Sound false tape (after f.p here) (at + n)) (ap length (sym is))
              (sound_on tape at f.p f.sound (either_not (eqb (length here) 0) (eqb (get_or here 0 0) end) not_last).1)

          from_here : {xs : List Statement} → statements_at tape at ≡ xs → (d : Declaring)
              → declare_all (standing links f.s) xs ≡ declare_all d (statements_at tape (at + length here))
              → declare_all (declaring new outermost) (statements tape) ≡ declare_all d (statements_at tape (at + length r))
          from_here one d step =
              f.same ∙ ap (declare_all (standing links f.s)) one ∙ step
              ∙ ap (λ (l : List ℕ). declare_all d (statements_at tape (at + length l))) (sym is)

          go : (t : Bool) → is_inner here ≡ t → Filling tape links' w' (at + length r)
          go true inner =
              let old = words ∙ inner_edges here inner links (walk_of f.s) in
              record {
                s = f.s;
                p = after f.p here;
                same =
                    from_here (statements_inner tape at not_last inner) (standing links' f.s)
                    (ap (λ (l : List ℕ). declare_all (standing l f.s) (statements_at tape (at + length here))) (sym old));
                held = subst (λ (l : List ℕ). Held l f.s) (sym old) f.held;
                walks = walked ∙ inner_walk here inner links' (walk_of f.s);
                sound = on;
              }
          go false outer =
              let one = one_accepted links f.s f.held at here some_id fault in
              let rest : List Statement = statements_at tape (at + length here) in
              let next : Scopes = scopes_after f.s (what_of here) in
              record {
                s = next;
                p = after f.p here;
                same =
                    from_here (statements_one tape at not_last outer) (standing links' next)
                    (ap (λ (a : Answer Declaring). and_then (placed at a) (λ t. declare_all t rest)) one.0
                    ∙ ap (λ (l : List ℕ). declare_all (standing l next) rest) (sym words));
                held = subst (λ (l : List ℕ). Held l next) (sym words) one.1;
                walks =
                    walked ∙ walk_statement links' f.s here (rw words (nested_words links f.s f.held at here));
                sound = on;
              }
