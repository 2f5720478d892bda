-- What an expression follows; the statements from an offset on, one record at a time; and that the reading of a sound tape, record
-- by record, is the walk over its statements. Assumes nothing.
use mathlib.Core.Bool.{Bool, true, false, not, ◌||◌}
use mathlib.Core.List.{List, [], ◌∷◌}
use mathlib.Core.Path.{◌≡◌, refl, sym, ap, ◌∙◌}
use Prim.Native.Nat.{ℕ, zero, suc, ◌+◌, ◌-◌, ◌≤◌, ◌<◌}
use native.Mathlib.Omega.{arith}
use lib.Dec.{eqb, ltb}
use lib.ListN.{length, get_or, drop, drop_of_length-le}
use borrow.Author.Tests.{eq-eqb, ne_eqb, eqb-true, eqb-false, ltb-false}
use Rattle.refusals.specs.Answer.{Answer, Done, Refused, pick}
use Rattle.refusals.specs.AnswerAt.{Fine}
use Rattle.refusals.specs.Table.{cut_short}
use Rattle.refusals.proofs.Never.{never}
use Rattle.tape.specs.Kinds.{instruction, open_scope, close_scope, label, constant, set_place, byte, word, end}
use Rattle.tape.specs.Record.{bytes_at}
use Rattle.tape.specs.Walk.{Go, Stop, Walk, Between, Ended, Bad, land, run}
use Rattle.tape.proofs.Records.{record_past, record_end}
use Rattle.tape.proofs.Walks.{run_bad, walk_record}
use Rattle.little.specs.Little.{number_at}
use Rattle.form.specs.Form.{Pending, top, begin, after, closed, tape_form, has_expression}
use Rattle.form.specs.Statements.{Open, Close, Label, Constant, SetPlace, Byte, Word, Screen, what_of, is_followed, Statement, statement_of, is_last, is_inner, statements_from, statements_at, statements, over_statements, out_of, read_statement, walked_to}
use Rattle.form.proofs.Reading.{head_known, read_behind}
use Rattle.form.proofs.Sound.{Sound, form_sound, also_fine, sound_inside, sound_head, sound_whole, sound_stop, sound_go}

-- ---- whether an expression follows a record r of kind k

module _ (r : List ℕ) (k : ℕ) (is : k ≡ get_or r 0 0) where
  -- an instruction: by its mode
  pub followed_instruction : k ≡ instruction → {h : Bool} → h ≡ not (eqb (get_or r 2 0) 0) → h ≡ is_followed (what_of r)
  unfolding what_of
  followed_instruction e h = h ∙ rw (← is, eq-eqb k instruction e)

  -- any other: the kinds that come before those with an expression have none
  pub followed_other : (k ≡ instruction → ⊥) → {h : Bool} → h ≡ has_expression k → h ≡ is_followed (what_of r)
  unfolding what_of has_expression
  followed_other e h =
      h
      ∙ go (eqb k open_scope) (eqb k close_scope) (eqb k label) (eqb k constant) (eqb k set_place) (eqb k byte) (eqb k word)
      (λ t. alone open_scope (eqb-true k _ t) refl) (λ t. alone close_scope (eqb-true k _ t) refl) (λ t. alone label (eqb-true k _ t) refl)
      ∙ rw (← is, ne_eqb k instruction e)
    where
      alone : (n : ℕ) → k ≡ n → has_expression n ≡ false → has_expression k ≡ false
      alone n e none = ap has_expression e ∙ none

      go : (a b c d e f g : Bool) → (a ≡ true → (d || e || f || g) ≡ false) → (b ≡ true → (d || e || f || g) ≡ false)
          → (c ≡ true → (d || e || f || g) ≡ false)
          → (d || e || f || g)
          ≡ is_followed (pick a (Open (number_at 2 r 1)) (pick b Close (pick c (Label (number_at 2 r 1))
          (pick d (Constant (number_at 2 r 1)) (pick e SetPlace (pick f Byte (pick g Word (Screen (get_or r 1 0)))))))))
      go true b c d e f g x y z = x refl
      go false true c d e f g x y z = y refl
      go false false true d e f g x y z = z refl
      go false false false true e f g x y z = refl
      go false false false false true f g x y z = refl
      go false false false false false true g x y z = refl
      go false false false false false false true x y z = refl
      go false false false false false false false x y z = refl

-- ---- the statements from an offset on

-- a record that is not the last one has bytes
pub not_empty : (r : List ℕ) → is_last r ≡ false → 0 < length r
not_empty [] e = never (cc)
not_empty (k ∷ r) e = omega arith

past : (n : ℕ) (tape : List ℕ) (at : ℕ) → length tape ≤ at → statements_from n tape at ≡ []
unfolding statements_from
past zero tape at h = refl
past (suc n) tape at h = rw (record_past tape at h)

-- to look for more records than the tape can have changes nothing
enough : (n m : ℕ) (tape : List ℕ) (at : ℕ) → length tape ≤ at + n → length tape ≤ at + m
    → statements_from n tape at ≡ statements_from m tape at
unfolding statements_from
enough zero m tape at x y = sym (past m tape at (omega arith))
enough (suc n) zero tape at x y = past (suc n) tape at (omega arith)
enough (suc n) (suc m) tape at x y =
    let r = bytes_at tape at in
    go r (is_last r) _ _ (λ e. enough n m tape (at + length r) (omega (arith, not_empty r e)) (omega (arith, not_empty r e)))
  where
    go : (r : List ℕ) (t : Bool) (xs ys : List Statement) → (t ≡ false → xs ≡ ys)
        → pick t [] (pick (is_inner r) xs (statement_of at r ∷ xs)) ≡ pick t [] (pick (is_inner r) ys (statement_of at r ∷ ys))
    go r true xs ys same = refl
    go r false xs ys same = rw (same refl)

module _ (tape : List ℕ) (at : ℕ) where
  pub statements_past : length tape ≤ at → statements_at tape at ≡ []
  unfolding statements_at
  statements_past h = past _ tape at h

  pub statements_last : is_last (bytes_at tape at) ≡ true → statements_at tape at ≡ []
  unfolding statements_at statements_from
  statements_last e = go (length tape - at)
    where
      go : (n : ℕ) → statements_from n tape at ≡ []
      go zero = refl
      go (suc n) = rw e

  module _ (more : is_last (bytes_at tape at) ≡ false) where
    step : statements_at tape at
        ≡ pick (is_inner (bytes_at tape at)) (statements_at tape (at + length (bytes_at tape at)))
        (statement_of at (bytes_at tape at) ∷ statements_at tape (at + length (bytes_at tape at)))
    unfolding statements_at statements_from
    step =
        let next = at + length (bytes_at tape at) in
        enough (length tape - at) (suc (length tape)) tape at (omega arith) (omega arith)
        ∙ rw (more, enough (length tape) (length tape - next) tape next (omega arith) (omega arith))

    -- a record of an expression is passed over
    pub statements_inner : is_inner (bytes_at tape at) ≡ true → statements_at tape at ≡ statements_at tape (at + length (bytes_at tape at))
    statements_inner e = step ∙ rw e

    pub statements_one : is_inner (bytes_at tape at) ≡ false
        → statements_at tape at ≡ statement_of at (bytes_at tape at) ∷ statements_at tape (at + length (bytes_at tape at))
    statements_one e = step ∙ rw e

-- ---- a sound tape, from an offset on, where p is pending

module _ (tape : List ℕ) (at : ℕ) where
  abbrev here : List ℕ
  here = bytes_at tape at

  abbrev next : ℕ
  next = at + length here

  module _ (p : Pending) (sound : Sound false tape p at) where
    abbrev whole : length here ≡ 0 → ⊥
    whole = sound_whole false tape at p refl sound

    -- behind the end record nothing stands
    pub sound_end : eqb (get_or here 0 0) end ≡ true → next ≡ length tape
    sound_end e =
        let stops = sound_stop false tape at p refl sound (eqb-true _ end e) in
        go (ltb next (length tape)) refl (also_fine false (stops ∙ read_behind false tape next p) sound)
      where
        within : next ≤ length tape
        within = record_end tape at (length tape) (omega (arith, sound_inside false tape at p refl sound)) (omega arith)

        go : (t : Bool) → ltb next (length tape) ≡ t → closed false (pick t (Bad cut_short next) (Ended p next)) ≡ Fine tt
            → next ≡ length tape
        go true e fine = never (cc)
        go false e fine = omega (arith, ltb-false next (length tape) e, within)

    -- behind any other record the tape is sound
    pub sound_on : eqb (get_or here 0 0) end ≡ false → Sound false tape (after p here) next
    sound_on e = also_fine false (sound_go false tape at p refl sound (eqb-false _ end e)) sound

    -- and only the end record is the last one
    pub sound_last : {t : Bool} → eqb (get_or here 0 0) end ≡ t → is_last here ≡ t
    sound_last e = rw (ne_eqb (length here) 0 whole, e)

-- ---- the reading of a sound tape is the walk over its statements

module _ (S : Type 0) (f : S → Statement → Answer S) (tape : List ℕ) where
  abbrev reads : Walk S → ℕ → Walk S
  reads w at = run S (λ s k. 0) (read_statement S f) w (drop at tape)

  abbrev walked : S → ℕ → Walk S
  walked s at = walked_to (length tape) (over_statements S f s (statements_at tape at))

  -- over one record, if it is so behind it
  walk_one : (s : S) (at : ℕ) (p : Pending) → Sound false tape p at
      → ((t : S) → eqb (get_or (here tape at) 0 0) end ≡ false → reads (Between t (next tape at)) (next tape at) ≡ walked t (next tape at))
      → reads (Between s at) at ≡ walked s at
  walk_one s at p sound rest =
      let kind = head_known false (top p.depths) (get_or tape at 0) (sound_head false tape at p refl sound) in
      walk_record S (λ s k. 0) (read_statement S f) tape at s (sound_inside false tape at p refl sound) refl kind (sound_whole false tape at p refl sound)
      ∙ go (eqb (get_or (here tape at) 0 0) end) refl (is_inner (here tape at)) refl (f s (statement_of at (here tape at))) refl
    where
      go : (a : Bool) → eqb (get_or (here tape at) 0 0) end ≡ a → (b : Bool) → is_inner (here tape at) ≡ b
          → (x : Answer S) → f s (statement_of at (here tape at)) ≡ x
          → reads (land (pick a (Stop s) (pick b (Go s) (out_of x))) at (here tape at)) (next tape at) ≡ walked s at
      go true ends b inner x is =
          let last = statements_last tape at (sound_last tape at p sound ends) in
          let all = sound_end tape at p sound ends in
          let past : length tape ≤ next tape at = omega arith in
          rw (last, drop_of_length-le tape past, all)
      go false more true inner x is = rest s more ∙ rw (statements_inner tape at (sound_last tape at p sound more) inner)
      go false more false inner (Done t) is = rest t more ∙ rw (statements_one tape at (sound_last tape at p sound more) inner, is)
      go false more false inner (Refused n) is =
          run_bad S (λ s k. 0) (read_statement S f) n at (drop (next tape at) tape)
          ∙ rw (statements_one tape at (sound_last tape at p sound more) inner, is)

  -- over at most n bytes
  walk_all : (n : ℕ) (s : S) (at : ℕ) (p : Pending) → length tape ≤ at + n → Sound false tape p at → reads (Between s at) at ≡ walked s at
  walk_all zero s at p most sound = absurd (omega (arith, sound_inside false tape at p refl sound))
  walk_all (suc n) s at p most sound =
      let on : length tape ≤ next tape at + n = omega (arith, sound_whole false tape at p refl sound) in
      walk_one s at p sound (λ t more. walk_all n t (next tape at) (after p (here tape at)) on (sound_on tape at p sound more))

pub walk_statements : (S : Type 0) (f : S → Statement → Answer S) (s : S) (tape : List ℕ) → tape_form tape ≡ Fine tt
    → run S (λ s k. 0) (read_statement S f) (Between s 0) tape ≡ walked_to (length tape) (over_statements S f s (statements tape))
walk_statements S f s tape sound = walk_all S f tape (length tape) s 0 (begin false) (omega arith) (form_sound false tape sound)
