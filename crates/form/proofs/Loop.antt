-- The loop of the form check: what each turn keeps, and the answer at each way out. Assumes nothing.
use mathlib.Core.Bool.{Bool, true, false, ◌&&◌}
use mathlib.Core.List.{List, [], ◌∷◌, ◌++◌}
use mathlib.Core.Path.{◌≡◌, refl, sym, ap, subst, ◌∙◌}
use Prim.Native.Nat.{ℕ, zero, suc, ◌+◌, ◌-◌, ◌≤◌, ◌<◌}
use native.Mathlib.Omega.{arith}
use lib.Dec.{eqb, ltb}
use lib.ListN.{length, get_or, drop, replicate, length-drop, drop_of_length-le}
use borrow.Author.Tests.{ne_eqb, lt-ltb, le-ltb}
use Rattle.refusals.specs.Answer.{pick}
use Rattle.refusals.specs.AnswerAt.{Fine, Fault}
use Rattle.refusals.specs.Table.{argument, cut_short}
use Rattle.refusals.proofs.Never.{never}
use Rattle.tape.specs.Kinds.{open_scope, close_scope, end}
use Rattle.tape.specs.Record.{bytes_at}
use Rattle.tape.specs.Walk.{Out, Go, Stop, No, Between, Ended, Bad, land}
use Rattle.tape.proofs.Records.{record_end}
use Rattle.form.specs.declared.State.{State}
use Rattle.refusals.specs.declared.Refusal.{Refusal}
use Rattle.refusals.specs.Says.{number_of}
use Rattle.std.specs.Prelude.{Option, Some, None, Result, Ok, Err}
use Rattle.form.specs.Form.{Pending, top, begin, max_tape, max_depth, head_fault, fault_of, followed, scopes_after, after, head_of, step_of, read_from, closed, form_of}
use Rattle.form.specs.Says.{fault_number}
use Rattle.form.specs.Steps.{view, Fit, FitBehind, Room, Ready, says_stepped}
use Rattle.form.proofs.Faults.{refuses, followed_few}
use Rattle.form.proofs.Reading.{head_shallow, read_bad, read_behind, read_head, read_short, read_record}

-- ---- room for what is pushed

room_few : (ds : List ℕ) → Room ds → top ds ≤ max_depth → length ds ≤ max_depth + 1
room_few [] r h = omega arith
room_few (d ∷ ds) r h = omega arith

-- nothing is to come where the next depth is 0
room_none : (ds : List ℕ) → Room ds → eqb (length ds) 0 ≡ eqb (top ds) 0
room_none [] r = refl
room_none (d ∷ ds) r = ne_eqb (length (d ∷ ds)) 0 (λ z. omega arith) ∙ sym (ne_eqb d 0 (λ z. omega (arith, r.0)))

room_begin : (alone : Bool) → Room (begin alone).depths
room_begin true = (omega arith, omega arith, tt)
room_begin false = tt

room_drop : (ds : List ℕ) → Room ds → Room (drop 1 ds) × (length (drop 1 ds) ≤ top ds)
room_drop [] r = (tt, omega arith)
room_drop (d ∷ ds) r = (r.2, r.1)

room_push : (n d : ℕ) (ds : List ℕ) → n ≤ 2 → Room ds → length ds ≤ d → Room (replicate n (d + 1) ++ ds)
room_push zero d ds h r l = r
room_push (suc zero) d ds h r l = (omega arith, omega arith, r)
room_push (suc (suc zero)) d ds h r l = (omega arith, omega arith, (omega arith, omega arith, r))
room_push (suc (suc (suc n))) d ds h r l = absurd (omega arith)

room_after : (p : Pending) (r : List ℕ) → Room p.depths → Room (after p r).depths
unfolding after
room_after p r room =
    let w = room_drop p.depths room in
    let few = followed_few (get_or r 0 0) (get_or r 2 0) refl in
    room_push (followed (get_or r 0 0) (get_or r 2 0)) (top p.depths) (drop 1 p.depths) few w.0 w.1

-- ---- what a record leaves

-- at most one scope more
few_after : (p : Pending) (r : List ℕ) → (after p r).scopes ≤ p.scopes + 1
unfolding after scopes_after
few_after p r = go (eqb (get_or r 0 0) open_scope) (eqb (get_or r 0 0) close_scope) p.scopes
  where
    go : (a b : Bool) (n : ℕ) → pick a (n + 1) (pick b (n - 1) n) ≤ n + 1
    go true b n = omega arith
    go false true n = omega arith
    go false false n = omega arith

-- where the step goes on
step_after : (p q : Pending) (r : List ℕ) → Go q ≡ step_of p r → q ≡ after p r
unfolding step_of
step_after p q r = go (eqb (fault_of p.scopes r) 0) (eqb (get_or r 0 0) end) (fault_of p.scopes r) (after p r)
  where
    go : (x y : Bool) (f : ℕ) (v : Pending) → ◌≡◌ {A = Out Pending} (Go q) (pick x (pick y (Stop p) (Go v)) (No f)) → q ≡ v
    go true true f v e = never (cc)
    go true false f v e = cc
    go false y f v e = never (cc)

-- ---- the invariant: the answer from here, with this state, is the answer from the start

pub record Inv (alone : Bool) (bytes : List ℕ) (s : State) (at : ℕ) : Type 0 where
  pub small : length bytes ≤ max_tape
  pub near : at ≤ length bytes
  pub fit : Fit s
  pub room : Room (view s).depths
  pub few : s.scopes ≤ at
  pub same : read_from alone (Between (begin alone) 0) bytes ≡ read_from alone (Between (view s) at) (drop at bytes)

-- a turn at a record whose kind is in its place
pub record Turn (alone : Bool) (bytes : List ℕ) (s : State) (at : ℕ) : Type 0 where
  pub inv : Inv alone bytes s at
  pub inside : at < length bytes
  pub good : head_of alone (view s) (get_or bytes at 0) ≡ 0

-- its record r is whole, and the code's step over it answers o
pub record Step (alone : Bool) (bytes : List ℕ) (s : State) (at : ℕ) (r : List ℕ) (o : Result (Option State) Refusal) : Type 0 where
  pub turn : Turn alone bytes s at
  pub is : r ≡ bytes_at bytes at
  pub some : length r ≡ 0 → ⊥
  pub told : says_stepped s o ≡ step_of (view s) r

-- ---- before the loop

pub too_long : (alone : Bool) (bytes : List ℕ) → max_tape < length bytes → Fault argument 0 ≡ form_of alone bytes
unfolding form_of
too_long alone bytes h = rw (lt-ltb max_tape (length bytes) h)

pub inv_start : (alone : Bool) (bytes : List ℕ) → length bytes ≤ max_tape → (s : State) → view s ≡ begin alone → Fit s → Inv alone bytes s 0
inv_start alone bytes h s v f = record {
  small = h;
  near = omega arith;
  fit = f;
  room = rw (ap (λ (p : Pending). p.depths) v) (room_begin alone);
  few = omega (arith, ap (λ (p : Pending). p.scopes) v);
  same = rw v;
}

-- ---- behind it, and at a record

module _ {alone : Bool} {bytes : List ℕ} {s : State} {at : ℕ} (i : Inv alone bytes s at) where
  done : form_of alone bytes ≡ closed alone (read_from alone (Between (view s) at) (drop at bytes))
  unfolding form_of
  done = rw (le-ltb max_tape (length bytes) i.small, i.same)

  -- d: the depth that is to come
  module _ (d : ℕ) (due : d ≡ top (view s).depths) where
    pub at_end : length bytes ≤ at → pick (alone && eqb d 0) (Fine tt) (Fault cut_short (length bytes)) ≡ form_of alone bytes
    unfolding read_from
    at_end h =
        let e : at ≡ length bytes = omega (arith, i.near) in
        sym (done ∙ rw (drop_of_length-le bytes h, room_none (view s).depths i.room, ← due, e))

    -- h: what the kind is answered
    module _ (inside : at < length bytes) (h : Result (Unit {0}) Refusal)
        (is : fault_number h ≡ head_fault alone d (get_or bytes at 0)) where
      headed : fault_number h ≡ head_of alone (view s) (get_or bytes at 0)
      headed = is ∙ rw due

      pub refused_head : (e : Refusal) → h ≡ Err e → Fault (number_of e) at ≡ form_of alone bytes
      refused_head e err =
          let no : number_of e ≡ head_of alone (view s) (get_or bytes at 0) = ap fault_number (sym err) ∙ headed in
          sym (done ∙ ap (closed alone) (read_head alone bytes at (view s) inside (λ z. refuses e (no ∙ z))) ∙ rw (← no))

      pub turn_good : h ≡ Ok tt → Turn alone bytes s at
      turn_good ok = record { inv = i; inside = inside; good = sym headed ∙ ap fault_number ok }

      -- r: its record, and o what the code's step over it answers
      pub stepped : h ≡ Ok tt → (r : List ℕ) → r ≡ bytes_at bytes at → (length r ≡ 0 → ⊥) → (o : Result (Option State) Refusal)
          → says_stepped s o ≡ step_of (view s) r → Step alone bytes s at r o
      stepped ok r there some o told = record { turn = turn_good ok; is = there; some = some; told = told }

-- ---- where its kind is in its place

module _ {alone : Bool} {bytes : List ℕ} {s : State} {at : ℕ} (t : Turn alone bytes s at) where
  pub is_ready : Ready s
  is_ready =
      let shallow = head_shallow alone (top (view s).depths) (get_or bytes at 0) t.good in
      let f : length (drop s.from s.depths) ≤ max_depth + 1 = room_few (view s).depths t.inv.room shallow in
      let g : length s.depths - s.from ≤ max_depth + 1 = rw (length-drop s.from s.depths) at f in
      let i = t.inv in
      record { fit = i.fit; room = omega (arith, i.fit.size); shallow = shallow; few = omega (arith, i.few, i.small) }

  pub refused_short : (r : List ℕ) → r ≡ bytes_at bytes at → length r ≡ 0 → Fault cut_short at ≡ form_of alone bytes
  refused_short r is e = sym (done t.inv ∙ ap (closed alone) (read_short alone bytes at (view s) t.inside t.good (rw is at e)))

-- ---- behind the step

module _ {alone : Bool} {bytes : List ℕ} {s : State} {at : ℕ} {r : List ℕ} {o : Result (Option State) Refusal}
    (t : Step alone bytes s at r o) where
  whole : length (bytes_at bytes at) ≡ 0 → ⊥
  whole e = t.some (ap length t.is ∙ e)

  pub within : at + length r ≤ length bytes
  within = rw t.is (record_end bytes at (length bytes) (omega (arith, t.turn.inside)) (omega arith))

  landed : (x : Out Pending) → says_stepped s o ≡ x
      → read_from alone (Between (view s) at) (drop at bytes)
      ≡ read_from alone (land x at r) (drop (at + length r) bytes)
  landed x e = read_record alone bytes at (view s) t.turn.inside t.turn.good whole ∙ rw (← t.is, ← t.told, e)

  answered : (x : Out Pending) → says_stepped s o ≡ x
      → form_of alone bytes ≡ closed alone (read_from alone (land x at r) (drop (at + length r) bytes))
  answered x e = done t.turn.inv ∙ ap (closed alone) (landed x e)

  pub refused_step : (e : Refusal) → o ≡ Err e → Fault (number_of e) at ≡ form_of alone bytes
  refused_step e is =
      let f : ℕ = number_of e in
      sym (answered (No f) (ap (says_stepped s) is) ∙ ap (closed alone) (read_bad alone bytes at f (drop (at + length r) bytes)))

  pub at_stop : o ≡ Ok None
      → pick (ltb (at + length r) (length bytes)) (Fault cut_short (at + length r)) (Fine tt) ≡ form_of alone bytes
  at_stop e =
      let n = at + length r in
      sym (answered (Stop (view s)) (ap (says_stepped s) e) ∙ ap (closed alone) (read_behind alone bytes n (view s)) ∙ go n (ltb n (length bytes)))
    where
      go : (n : ℕ) (b : Bool) → closed alone (pick b (Bad cut_short n) (Ended (view s) n)) ≡ pick b (Fault cut_short n) (Fine tt)
      go n true = refl
      go n false = refl

  pub onward : (q : State) → o ≡ Ok (Some q) → FitBehind o → Inv alone bytes q (at + length r)
  onward q e f =
      let gone = ap (says_stepped s) (sym e) ∙ t.told in
      let v : view q ≡ after (view s) r = step_after (view s) (view q) r gone in
      record {
        small = t.turn.inv.small;
        near = within;
        fit = subst FitBehind e f;
        room = rw (ap (λ (p : Pending). p.depths) v) (room_after (view s) r t.turn.inv.room);
        few = omega (arith, ap (λ (p : Pending). p.scopes) v, few_after (view s) r, t.turn.inv.few, t.some);
        same = t.turn.inv.same ∙ landed (Go (view q)) (ap (says_stepped s) e);
      }
