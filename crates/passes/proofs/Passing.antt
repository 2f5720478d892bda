-- One pass over a tape, record by record: what is given so far and the pass from here are the pass from the start. Assumes nothing.
use Rattle.std.specs.Prelude.{Option, None, Some}
use mathlib.Core.Bool.{Bool, true, false}
use mathlib.Core.List.{List, [], ◌∷◌, ◌++◌, append-nil, append_assoc}
use mathlib.Core.Path.{◌≡◌, refl, sym, ap, subst, ◌∙◌}
use Prim.Native.Nat.{ℕ, ◌+◌, ◌*◌, ◌≤◌, ◌<◌, ◌^◌}
use native.Mathlib.Omega.{arith}
use lib.IntN.{ℤ, pos}
use lib.ListN.{length, get_or, set, length-append}
use mir.Facts.{to_z_pos}
use mir.Syntax.{w64}
use mir.Val.{to_z}
use Rattle.refusals.specs.Answer.{pick}
use Rattle.refusals.proofs.Pick.{at_true, at_false}
use Rattle.edges.specs.Edges.{max_nodes}
use Rattle.tape.specs.Record.{bytes_at}
use Rattle.form.specs.Form.{declares}
use Rattle.form.specs.Statements.{What, Instruction, Open, Close, Label, Constant, SetPlace, Byte, Word, Screen, what_of}
use Rattle.form.specs.Statements.{Statement, is_inner, is_last, statements_at, statements}
use Rattle.form.proofs.Statements.{not_empty, statements_past, statements_last, statements_inner, statements_one}
use Rattle.form.proofs.Said.{by_kind}
use Rattle.walk.specs.declared.Walk.{Walk}
use Rattle.walk.specs.Walk as W
use Rattle.walk.specs.Walk.{origin, begin, names_in, step}
use Rattle.walk.specs.Values.{Values, number_of, declarations}
use Rattle.walk.specs.Numbers.{numbers_by, reads_noted, value_of}
use Rattle.walk.proofs.Records.{inner_none, place_most}
use Rattle.walk.proofs.Columns.{column_more}
use Rattle.walk.proofs.Counting.{names_on}
use Rattle.passes.specs.Passes.{gives, pass}
use Rattle.passes.specs.Settle.{is_allowed}
use Rattle.passes.specs.Steps.{step_over, kept_for, kept_in}
use Rattle.passes.proofs.Counting.{allowed}

-- ---- what a statement gives

pub gives_length : (w : Walk) (x : What) (v : Option ℤ) → length (gives w x v) ≡ names_in x
gives_length w (Label id) v = refl
gives_length w (Constant id) v = refl
gives_length w (Open id) v = refl
gives_length w Close v = refl
gives_length w (Instruction mnemonic mode suffix) v = refl
gives_length w SetPlace v = refl
gives_length w Byte v = refl
gives_length w Word v = refl
gives_length w (Screen petscii) v = refl

-- in the array of the values that are done
module _ (done : Values) (w : Walk) (r : List ℕ) (v : Option ℤ) (many : length done ≡ w.names) where
  one_kept : (u : Option ℤ) → w.names + 1 < max_nodes → set (numbers_by done) (w.names + 1) u ≡ numbers_by (done ++ u ∷ [])
  one_kept u h = ap (λ (n : ℕ). set (numbers_by done) (n + 1) u) (sym many) ∙ column_more done u (omega arith)

  all_kept : (declares (get_or r 0 0) ≡ true → w.names + 1 < max_nodes)
      → kept_in (numbers_by done) w r (kept_for (get_or r 0 0) w v) ≡ numbers_by (done ++ gives w (what_of r) v)
  unfolding kept_in kept_for declares what_of
  all_kept room =
      let none_kept : numbers_by done ≡ numbers_by (done ++ []) = ap numbers_by (sym (append-nil done)) in
      by_kind r
      (λ k x. (declares k ≡ true → w.names + 1 < max_nodes)
      → pick (declares k) (set (numbers_by done) (w.names + 1) (kept_for k w v)) (numbers_by done) ≡ numbers_by (done ++ gives w x v))
      (λ h. none_kept) (λ h. one_kept None (h refl)) (λ h. none_kept) (λ h. one_kept (Some (W.here w)) (h refl)) (λ h. one_kept v (h refl))
      (λ h. none_kept) (λ h. none_kept) (λ h. none_kept) (λ k e h. sym (at_false _ _ e) ∙ none_kept) (get_or r 0 0) room

-- ---- on the way

-- between two records, at an offset
pub record Going (tape nodes : List ℕ) (numbers : ℕ → Option ℤ) (initial : ℕ) (given : List (Option ℤ)) (w : Walk) (at : ℕ) : Type 0 where
  pub done : Values
  pub split : pass (reads_noted tape nodes) numbers (begin (origin initial)) (statements tape)
      ≡ done ++ pass (reads_noted tape nodes) numbers w (statements_at tape at)
  pub many : length done ≡ w.names
  pub is : given ≡ numbers_by done
  pub room : w.names + declarations (statements_at tape at) < max_nodes
  pub low : w.place ≤ 65536 + 3 * at

-- what a pass has to leave
abbrev pub Passed : (tape nodes : List ℕ) (numbers : ℕ → Option ℤ) (initial : ℕ) (given : List (Option ℤ)) → Type 0
Passed tape nodes numbers initial given =
    given ≡ numbers_by (pass (reads_noted tape nodes) numbers (begin (origin initial)) (statements tape))

module _ (tape nodes : List ℕ) (numbers : ℕ → Option ℤ) (initial : ℕ) where
  pub going_start : is_allowed tape initial ≡ true → {given : List (Option ℤ)} → given ≡ numbers_by []
      → Going tape nodes numbers initial given (begin (origin initial)) 0
  going_start e p =
      let a = allowed tape initial e in
      record { done = []; split = refl; many = refl; is = p; room = omega (arith, a.2); low = omega (arith, a.1) }

  module _ {given : List (Option ℤ)} {w : Walk} {at : ℕ} (g : Going tape nodes numbers initial given w at) where
    going_done : statements_at tape at ≡ [] → Passed tape nodes numbers initial given
    unfolding pass
    going_done e =
        let all = g.split ∙ ap (λ (xs : List Statement). g.done ++ pass (reads_noted tape nodes) numbers w xs) e ∙ append-nil g.done in
        g.is ∙ ap numbers_by (sym all)

    pub going_past : length tape ≤ at → Passed tape nodes numbers initial given
    going_past h = going_done (statements_past tape at h)

    -- ---- over one record

    abbrev here : List ℕ
    here = bytes_at tape at

    -- there is room for the name that it declares
    room_here : is_last here ≡ false → declares (get_or here 0 0) ≡ true → w.names + 1 < max_nodes
    room_here more e =
        let rest = declarations (statements_at tape (at + length here)) in
        omega (arith, g.room, names_on tape at more ∙ ap (λ (t : Bool). pick t 1 0 + rest) e)

    module _ (v : Option ℤ) (l : List (Option ℤ)) (u : Walk) where
      -- what a turn makes of the record r
      abbrev Turned : List ℕ → Type 0
      Turned r =
          is_last r ≡ false → v ≡ number_of (value_of tape nodes numbers (pos w.place) r (at + length r))
          → l ≡ kept_in given w r (kept_for (get_or r 0 0) w v) → u ≡ step_over w r v → Going tape nodes numbers initial l u (at + length r)

      -- a record of an expression changes nothing
      over_inner : is_inner here ≡ true → Turned here
      unfolding kept_in step_over
      over_inner i more pv pl pu =
          let no_name = inner_none here i in
          let stays : u ≡ w = pu ∙ sym (at_true w (step w (what_of here) v) i) in
          let rest = statements_inner tape at more i in
          record {
            done = g.done;
            split = g.split ∙ rw (rest, stays);
            many = rw stays g.many;
            is = pl ∙ sym (at_false _ _ no_name) ∙ g.is;
            room = rw (stays, ← rest) g.room;
            low = rw stays (omega (arith, g.low));
          }

      -- a statement gives what it gives, and the walk goes on
      over_one : is_inner here ≡ false → Turned here
      unfolding step_over step pass value_of numbers_by
      over_one i more pv pl pu =
          let steps : u ≡ step w (what_of here) v = pu ∙ sym (at_false w (step w (what_of here) v) i) in
          let names = ap (λ (x : Walk). x.names) steps in
          let place = ap (λ (x : Walk). x.place) steps in
          let rest = statements_one tape at more i in
          record {
            done = g.done ++ gives w (what_of here) v;
            split = g.split ∙ rw (rest, steps, pv) (sym (append_assoc g.done _ _));
            many = omega (arith, length-append g.done (gives w (what_of here) v), gives_length w (what_of here) v, g.many, names);
            is = pl ∙ ap (λ (k : List (Option ℤ)). kept_in k w here (kept_for (get_or here 0 0) w v)) g.is
                ∙ all_kept g.done w here v g.many (room_here more);
            room = omega (arith, names, ap declarations rest, g.room);
            low = omega (arith, place, place_most (what_of here) v w.place (65536 + 3 * at) g.low (omega arith), not_empty here more);
          }

      over : Turned here
      over = go (is_inner here) refl
        where
          go : (i : Bool) → is_inner here ≡ i → Turned here
          go true i = over_inner i
          go false i = over_one i

    -- inside the tape the place is far from what memory holds
    pub low_place : is_allowed tape initial ≡ true → at < length tape → w.place < 2 ^ 62
    low_place e inside = omega (arith, g.low, (allowed tape initial e).0)

    -- r is the record there, and l tells whether it is the last one
    module _ {r : List ℕ} (r-is : r ≡ bytes_at tape at) {l : Bool} (l-is : l ≡ is_last r) where
      pub going_last : l ≡ true → Passed tape nodes numbers initial given
      going_last e = going_done (statements_last tape at (sym (l-is ∙ ap is_last r-is) ∙ e))

      pub room_for : l ≡ false → declares (get_or r 0 0) ≡ true → w.names + 1 < max_nodes
      room_for e d = room_here (sym (l-is ∙ ap is_last r-is) ∙ e) (ap (λ (x : List ℕ). declares (get_or x 0 0)) (sym r-is) ∙ d)

      pub going_on : l ≡ false → w.place < 2 ^ 63
          → {v : Option ℤ} → v ≡ number_of (value_of tape nodes numbers (to_z w64 w.place) r (at + length r))
          → {l : List (Option ℤ)} → l ≡ kept_in given w r (kept_for (get_or r 0 0) w v)
          → {u : Walk} → u ≡ step_over w r v → Going tape nodes numbers initial l u (at + length r)
      going_on e h {v} pv {l} pl {u} pu =
          subst (Turned v l u) (sym r-is) (over v l u) (sym l-is ∙ e)
          (pv ∙ ap (λ (z : ℤ). number_of (value_of tape nodes numbers z r (at + length r))) (to_z_pos w64 h)) pl pu
