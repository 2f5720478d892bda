-- What a reading that finds no fault says of the record at an offset. Assumes nothing.
use mathlib.Core.Bool.{Bool, true, false, ◌&&◌}
use mathlib.Core.List.{List}
use mathlib.Core.Path.{◌≡◌, refl, sym, ap, ◌∙◌}
use Prim.Native.Nat.{ℕ, zero, suc, ◌+◌, ◌≤◌, ◌<◌}
use native.Mathlib.Decide.{dec_lt}
use native.Mathlib.Omega.{arith}
use lib.Dec.{eqb, ltb}
use lib.ListN.{length, get_or, drop, drop_of_length-le}
use borrow.Author.Tests.{ltb-false}
use Rattle.refusals.proofs.Never.{never}
use Rattle.refusals.specs.Answer.{pick}
use Rattle.refusals.specs.AnswerAt.{AnswerAt, Fine, Fault}
use Rattle.refusals.specs.Table.{argument}
use Rattle.tape.specs.Record.{bytes_at}
use Rattle.tape.specs.Kinds.{end}
use Rattle.tape.specs.Walk.{Out, Walk, Between, Ended, land}
use Rattle.form.specs.Form.{Pending, begin, max_tape, head_of, fault_of, after, step_of, read_from, closed, form_of}
use Rattle.form.proofs.Faults.{step_no, step_stop, step_go}
use Rattle.form.proofs.Reading.{read_bad, read_head, read_short, read_record}

-- the form's reading of what is left at an offset, where p is pending; and that it finds no fault
abbrev pub read_at : Bool → List ℕ → Pending → ℕ → Walk Pending
read_at alone bytes p at = read_from alone (Between p at) (drop at bytes)

abbrev pub Sound : Bool → List ℕ → Pending → ℕ → Type 0
Sound alone bytes p at = closed alone (read_at alone bytes p at) ≡ Fine tt

-- from the start, where the form is accepted
pub form_sound : (alone : Bool) (bytes : List ℕ) → form_of alone bytes ≡ Fine tt → Sound alone bytes (begin alone) 0
unfolding form_of
form_sound alone bytes e = go (ltb max_tape (length bytes)) e
  where
    go : (t : Bool) {x : AnswerAt (Unit {0})} → pick t (Fault argument 0) x ≡ Fine tt → x ≡ Fine tt
    go true e = never (cc)
    go false e = e

-- which is no longer than a tape may be
pub form_short : (alone : Bool) (bytes : List ℕ) → form_of alone bytes ≡ Fine tt → length bytes ≤ max_tape
unfolding form_of
form_short alone bytes e = go (ltb max_tape (length bytes)) refl _ e
  where
    go : (t : Bool) → ltb max_tape (length bytes) ≡ t → (x : AnswerAt (Unit {0})) → pick t (Fault argument 0) x ≡ Fine tt
        → length bytes ≤ max_tape
    go true p x e = never (cc)
    go false p x e = ltb-false _ _ p

pub also_fine : (alone : Bool) {w v : Walk Pending} → w ≡ v → closed alone w ≡ Fine tt → closed alone v ≡ Fine tt
also_fine alone e fine = sym (ap (closed alone) e) ∙ fine

is_zero : (x : ℕ) → ((x ≡ 0 → ⊥) → ⊥) → x ≡ 0
is_zero zero h = refl
is_zero (suc x) h = absurd (h (λ e. omega arith))

-- ---- the record at an offset, where the bytes may not end

module _ (alone : Bool) (bytes : List ℕ) (at : ℕ) (p : Pending) (more : (alone && eqb (length p.depths) 0) ≡ false)
    (sound : Sound alone bytes p at) where
  abbrev here : List ℕ
  here = bytes_at bytes at

  -- it is there
  pub sound_inside : at < length bytes
  unfolding read_from
  sound_inside =
      elim (dec_lt at (length bytes)) [
        | yes h ↦ h
        | no h ↦ let past : length bytes ≤ at = omega arith in let fine = rw (more) at rw (drop_of_length-le bytes past) at sound in never (cc)
      ]

  -- its kind is in its place
  pub sound_head : head_of alone p (get_or bytes at 0) ≡ 0
  sound_head = is_zero _ (λ z. let fine = also_fine alone (read_head alone bytes at p sound_inside z) sound in never (cc))

  -- it is whole
  pub sound_whole : length here ≡ 0 → ⊥
  sound_whole z = let fine = also_fine alone (read_short alone bytes at p sound_inside sound_head z) sound in never (cc)

  -- the reading behind it, after what it does
  abbrev landed : Out Pending → Walk Pending
  landed o = read_from alone (land o at here) (drop (at + length here) bytes)

  sound_landed : read_at alone bytes p at ≡ landed (step_of p here)
  sound_landed = read_record alone bytes at p sound_inside sound_head sound_whole

  -- and it is not refused
  pub sound_fault : fault_of p.scopes here ≡ 0
  sound_fault =
      is_zero _
      (λ z. let no = ap landed (sym (step_no p here (fault_of p.scopes here) refl z)) in
      let bad = sound_landed ∙ no ∙ read_bad alone bytes at (fault_of p.scopes here) (drop (at + length here) bytes) in
      let fine = also_fine alone bad sound in
      never (cc))

  -- the end record is the end; behind any other the reading goes on
  pub sound_stop : get_or here 0 0 ≡ end
      → read_at alone bytes p at ≡ read_from alone (Ended p (at + length here)) (drop (at + length here) bytes)
  sound_stop e = sound_landed ∙ ap landed (sym (step_stop p here (fault_of p.scopes here) refl sound_fault (get_or here 0 0) refl e))

  pub sound_go : (get_or here 0 0 ≡ end → ⊥) → read_at alone bytes p at ≡ read_at alone bytes (after p here) (at + length here)
  sound_go e = sound_landed ∙ ap landed (sym (step_go p here (fault_of p.scopes here) refl sound_fault (get_or here 0 0) refl e (after p here) refl))
