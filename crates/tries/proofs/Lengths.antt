-- What a statement writes is as long as the passes say, and has at most three bytes; so behind it the code's walk is that of a pass.
-- Assumes nothing.
use Rattle.std.specs.Prelude.{Option, None, Some}
use mathlib.Core.Bool.{Bool, true, false}
use mathlib.Core.List.{List, [], ◌∷◌}
use mathlib.Core.Path.{◌≡◌, refl, sym, ap, subst, ◌∙◌}
use Prim.Native.Nat.{ℕ, ◌+◌, ◌≤◌}
use native.Mathlib.Omega.{arith}
use lib.Dec.{eqb}
use lib.IntN.{ℤ, pos}
use lib.ListN.{length, get_or}
use borrow.Author.Tests.{ne_eqb, eqb-true, eqb-false}
use Rattle.refusals.specs.Answer.{Answer, Done, Refused, pick, and_then}
use Rattle.refusals.specs.AnswerAt.{AnswerAt, Fine, Fault}
use Rattle.refusals.specs.Table.{argument, too_small, outside}
use Rattle.refusals.specs.declared.Refusal.{Refusal}
use Rattle.refusals.proofs.Never.{never}
use Rattle.int64.specs.Num.{mod_z}
use Rattle.opcodes.specs.declared.Form.{Form}
use Rattle.opcodes.specs.Manual.{forms_of, is_branch}
use Rattle.opcodes.specs.Encode.{length_of, low_first, takes, bytes_of, tried, encode_forms, in_range, encode_of}
use Rattle.opcodes.proofs.Encoding.{length_bytes_of}
use Rattle.opcodes.proofs.Single.{branch_single, implied_single}
use Rattle.text_encoding.specs.Petscreen.{petscreen_of}
use Rattle.tape.specs.Kinds.{set_place}
use Rattle.form.specs.Statements.{What, Instruction, Open, Close, Label, Constant, SetPlace, Byte, Word, Screen, what_of, placed}
use Rattle.evaluator.specs.Expression.{Value, Number, Unresolved, Refuses}
use Rattle.walk.specs.declared.Walk.{Walk}
use Rattle.walk.specs.Walk.{walk, is_place, form_length, length_in, moved_to, place_after, step}
use Rattle.walk.specs.Values.{number_of, eq_value}
use Rattle.walk.proofs.Records.{names_said, place_set, place_other, few_bytes}
use Rattle.compares.specs.declared.Compares.{Compares}
use Rattle.tries.specs.Try.{given, compared, instruction_of, try_of}
use Rattle.tries.specs.Steps.{place_behind, walk_behind}

-- ---- an instruction

-- a row of at most one form is always as long
form_length_single : (fs : List Form) → length fs ≤ 1 → (u v : Option ℤ) → form_length fs u ≡ form_length fs v
form_length_single [] h u v = refl
form_length_single (f ∷ []) h u v = refl
form_length_single (f ∷ g ∷ fs) h u v = absurd (omega arith)

-- an encoding is as long as the form that takes the operand
tried_length : (fs : List Form) (z : ℤ) (bs : List ℕ) → tried fs z ≡ Done bs → length bs ≡ form_length fs (Some z)
tried_length [] z bs e = never (cc)
tried_length (f ∷ []) z bs e = go (takes f z) e
  where
    go : (t : Bool) → pick t (Done (bytes_of f z)) (Refused too_small) ≡ Done bs → length bs ≡ length_of f
    go true h = let p : bytes_of f z ≡ bs = cc in ap length (sym p) ∙ length_bytes_of f z
    go false h = never (cc)
tried_length (f ∷ g ∷ fs) z bs e = go (takes f z) e (tried_length (g ∷ fs) z bs)
  where
    go : (t : Bool) → pick t (Done (bytes_of f z)) (tried (g ∷ fs) z) ≡ Done bs
        → (tried (g ∷ fs) z ≡ Done bs → length bs ≡ form_length (g ∷ fs) (Some z))
        → length bs ≡ pick t (length_of f) (form_length (g ∷ fs) (Some z))
    go true h on = let p : bytes_of f z ≡ bs = cc in ap length (sym p) ∙ length_bytes_of f z
    go false h on = on h

encode_length : (m o s : ℕ) (z : ℤ) (bs : List ℕ) → encode_of m o s z ≡ Done bs → length bs ≡ form_length (forms_of m o s) (Some z)
unfolding encode_of
encode_length m o s z bs e = go (in_range m o s) (forms_of m o s) e
  where
    go : (t : Bool) (fs : List Form) → pick t (encode_forms fs z) (Refused argument) ≡ Done bs → length bs ≡ form_length fs (Some z)
    go true [] h = never (cc)
    go true (f ∷ fs) h = tried_length (f ∷ fs) z bs h
    go false fs h = never (cc)

-- a branch's row has one form, so that its length is not that of another operand
instruction_length : (m o s : ℕ) (place z : ℤ) (bs : List ℕ) → instruction_of m o s place z ≡ Done bs
    → length bs ≡ form_length (forms_of m o s) (Some z)
unfolding instruction_of
instruction_length m o s place z bs e = go (is_branch m o s) refl _ e
  where
    go : (t : Bool) → is_branch m o s ≡ t → (d : Answer ℕ) → pick t (and_then d (λ b. encode_of m o s (pos b))) (encode_of m o s z) ≡ Done bs
        → length bs ≡ form_length (forms_of m o s) (Some z)
    go true h (Done b) k =
        encode_length m o s (pos b) bs k ∙ form_length_single (forms_of m o s) (branch_single m o s h) (Some (pos b)) (Some z)
    go true h (Refused n) k = never (cc)
    go false h d k = encode_length m o s z bs k

-- ---- a statement that passed

placed_fine : {A : Type 0} (at : ℕ) (a : Answer A) (b : A) → placed at a ≡ Fine b → a ≡ Done b
placed_fine at (Done a) b e = cc
placed_fine at (Refused n) b e = never (cc)

none : (t : Bool) (n at : ℕ) (bs : List ℕ) → pick t (Fine []) (Fault n at) ≡ Fine bs → length bs ≡ 0
none true n at bs e = let p : [] ≡ bs = cc in ap length (sym p)
none false n at bs e = never (cc)

compared_none : (r : Option Refusal) (own : Option ℤ) (z : ℤ) (at : ℕ) (bs : List ℕ) → compared r own z at ≡ Fine bs → length bs ≡ 0
compared_none None own z at bs e = let p : [] ≡ bs = cc in ap length (sym p)
compared_none (Some why) own z at bs e = none (eq_value own (Some z)) _ at bs e

-- its expression is a number z, of which f makes the bytes
of_number : (at : ℕ) (v : Value) (f : ℤ → AnswerAt (List ℕ)) (bs : List ℕ) (g : Option ℤ → ℕ)
    → ((z : ℤ) → f z ≡ Fine bs → length bs ≡ g (Some z)) → given at v f ≡ Fine bs → length bs ≡ g (number_of v)
of_number at (Number z) f bs g h e = h z e
of_number at (Unresolved i) f bs g h e = never (cc)
of_number at (Refuses n i) f bs g h e = never (cc)

module _ (c : Compares) (own : Option ℤ) (place : ℤ) (at : ℕ) where
  pub try_length : (x : What) (v : Value) (bs : List ℕ) → try_of c own place at x v ≡ Fine bs → length bs ≡ length_in x (number_of v)
  try_length (Open id) v bs e = let p : [] ≡ bs = cc in ap length (sym p)
  try_length Close v bs e = let p : [] ≡ bs = cc in ap length (sym p)
  try_length (Label id) v bs e = compared_none c.label own place at bs e
  try_length (Constant id) v bs e =
      of_number at v (λ z. compared c.constant own z at) bs (λ u. 0)
      (λ z h. compared_none c.constant own z at bs h) e
  try_length SetPlace v bs e =
      of_number at v (λ z. pick (is_place z) (Fine []) (Fault outside at)) bs (λ u. 0) (λ z h. none (is_place z) outside at bs h) e
  try_length (Instruction m o s) v bs e = go (eqb o 0) refl e
    where
      go : (t : Bool) → eqb o 0 ≡ t
          → pick t (placed at (encode_of m o s (pos 0))) (given at v (λ z. placed at (instruction_of m o s place z))) ≡ Fine bs
          → length bs ≡ form_length (forms_of m o s) (number_of v)
      go true h k =
          let few = subst (λ (n : ℕ). length (forms_of m n s) ≤ 1) (sym (eqb-true o 0 h)) (implied_single m s) in
          encode_length m o s (pos 0) bs (placed_fine at _ bs k) ∙ form_length_single (forms_of m o s) few (Some (pos 0)) (number_of v)
      go false h k =
          of_number at v (λ z. placed at (instruction_of m o s place z)) bs (form_length (forms_of m o s))
          (λ z p. instruction_length m o s place z bs (placed_fine at _ bs p)) k
  try_length Byte v bs e =
      of_number at v (λ z. Fine (low_first 1 (mod_z 256 z))) bs (λ u. 1)
      (λ z h. let p : low_first 1 (mod_z 256 z) ≡ bs = cc in ap length (sym p)) e
  try_length Word v bs e =
      of_number at v (λ z. Fine (low_first 2 (mod_z 65536 z))) bs (λ u. 2)
      (λ z h. let p : low_first 2 (mod_z 65536 z) ≡ bs = cc in ap length (sym p)) e
  try_length (Screen petscii) v bs e = let p : petscreen_of petscii ∷ [] ≡ bs = cc in ap length (sym p)

  pub try_short : (x : What) (v : Value) (bs : List ℕ) → try_of c own place at x v ≡ Fine bs → length bs ≤ 3
  try_short x v bs e = few_bytes x (number_of v) (try_length x v bs e)

-- ---- the walk behind a record r of kind k that wrote n bytes

pub behind_bytes : (k : ℕ) (v : Value) (place n : ℕ) → (k ≡ set_place → ⊥) → place + n ≡ place_behind k v place n
unfolding place_behind
behind_bytes k v place n e = rw (ne_eqb k set_place e)

pub behind_step : (w : Walk) (r : List ℕ) (k : ℕ) → k ≡ get_or r 0 0 → (v : Value) (n : ℕ) → n ≡ length_in (what_of r) (number_of v)
    → walk_behind w k v n ≡ step w (what_of r) (number_of v)
unfolding walk_behind place_behind step
behind_step w r k is v n h i = walk (place i) (names_said r k is w.names i)
  where
    place : pick (eqb k set_place) (moved_to (number_of v) w.place) (w.place + n) ≡ place_after (what_of r) (number_of v) w.place
    place = go (eqb k set_place) refl
      where
        go : (t : Bool) → eqb k set_place ≡ t
            → pick t (moved_to (number_of v) w.place) (w.place + n) ≡ place_after (what_of r) (number_of v) w.place
        go true e = place_set r k is (number_of v) (eqb-true k set_place e) w.place refl
        go false e = place_other r k is (number_of v) (eqb-false k set_place e) w.place h
