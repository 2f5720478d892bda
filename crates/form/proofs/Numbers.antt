-- The numbers with which a form is refused: what holds of each of them holds of the number that is answered. Assumes nothing.
use mathlib.Core.Bool.{Bool, true, false, ◌&&◌}
use mathlib.Core.List.{List, [], ◌∷◌, ◌++◌}
use mathlib.Core.Path.{◌≡◌, refl, subst}
use Prim.Native.Nat.{ℕ, ◌≤◌}
use lib.Dec.{eqb, leb}
use lib.ListN.{length, get_or}
use borrow.Author.Tests.{eqb-false, le-ltb}
use Rattle.refusals.specs.Answer.{Answer, Done, Refused, pick}
use Rattle.refusals.specs.AnswerAt.{AnswerAt, Fine, Fault, and_then}
use Rattle.refusals.specs.Table.{bad_record, no_row, cut_short, unpaired, too_deep}
use Rattle.opcodes.specs.Encode.{in_range}
use Rattle.opcodes.specs.Manual.{forms_of}
use Rattle.tape.specs.Kinds.{size_of, is_expression, is_statement, is_name, flags, binary, instruction, close_scope, end}
use Rattle.tape.specs.Walk.{Out, Go, Stop, No, Walk, Between, Within, Ended, Bad, land, feed, run}
use Rattle.form.specs.Form.{Pending, begin, max_tape, max_depth, expression_fault, outside_fault, head_fault, range_fault, instruction_fault}
use Rattle.form.specs.Form.{id_fault, declares, body_fault, scope_fault, fault_of, after, head_of, step_of, read_from, closed, form_of}
use Rattle.form.specs.Statements.{placed}

-- ---- the number of a refusal

module _ (P : ℕ → Type 0) where
  -- P holds of the number with which it refuses, if it does
  abbrev pub RefusedBy : {A : Type 0} → Answer A → Type 0
  RefusedBy (Done a) = Unit {0}
  RefusedBy (Refused n) = P n

  abbrev pub FaultBy : {A : Type 0} → AnswerAt A → Type 0
  FaultBy (Fine a) = Unit {0}
  FaultBy (Fault n at) = P n

  pub placed_by : {A : Type 0} (at : ℕ) (a : Answer A) → RefusedBy a → FaultBy (placed at a)
  placed_by at (Done a) h = tt
  placed_by at (Refused n) h = h

  pub then_by : {A B : Type 0} (f : A → AnswerAt B) (a : AnswerAt A) → FaultBy a → ((x : A) → a ≡ Fine x → FaultBy (f x))
      → FaultBy (and_then a f)
  then_by f (Fine x) h on = on x refl
  then_by f (Fault n at) h on = h

  pub number_by : {A : Type 0} {a : AnswerAt A} {n at : ℕ} → FaultBy a → a ≡ Fault n at → P n
  number_by h e = subst FaultBy e h

-- a number that is 0, or a refusal of which P holds
pub data Number (P : ℕ → Type 0) : ℕ → Type 0 where
  no_refusal : Number P 0
  a_refusal : {n : ℕ} → P n → Number P n

module _ {P : ℕ → Type 0} where
  pub either : (t : Bool) {a b : ℕ} → Number P a → Number P b → Number P (pick t a b)
  either true h k = h
  either false h k = k

  pub refused_by : {n : ℕ} → Number P n → (n ≡ 0 → ⊥) → P n
  refused_by no_refusal z = absurd (z refl)
  refused_by (a_refusal h) z = h

-- ---- the form

module _ (P : ℕ → Type 0) (bad : P bad_record) (row : P no_row) (short : P cut_short) (scope : P unpaired) (deep : P too_deep) where
  head_number : (alone : Bool) (d k : ℕ) → Number P (head_fault alone d k)
  unfolding head_fault expression_fault outside_fault
  head_number alone d k =
      either (eqb d 0)
      (either alone (a_refusal short) (either (is_statement k) no_refusal (a_refusal bad)))
      (either (is_expression k) (either (leb d max_depth) no_refusal (a_refusal deep)) (a_refusal bad))

  range_number : (least most a : ℕ) → Number P (range_fault least most a)
  unfolding range_fault
  range_number least most a = either (leb least a && leb a most) no_refusal (a_refusal bad)

  instruction_number : (mnemonic mode suffix : ℕ) → Number P (instruction_fault mnemonic mode suffix)
  unfolding instruction_fault
  instruction_number mnemonic mode suffix =
      either (in_range mnemonic mode suffix)
      (either (eqb (length (forms_of mnemonic mode suffix)) 0) (a_refusal row) no_refusal)
      (a_refusal bad)

  id_number : (id : ℕ) → Number P (id_fault id)
  unfolding id_fault
  id_number id = either (eqb id 0) (a_refusal bad) no_refusal

  body_number : (r : List ℕ) → Number P (body_fault r)
  unfolding body_fault
  body_number r =
      let k = get_or r 0 0 in
      either (eqb k instruction) (instruction_number _ _ _)
      (either (eqb k flags) (range_number _ _ _)
      (either (eqb k binary) (range_number _ _ _)
      (either (is_name k) (range_number _ _ _)
      (either (declares k) (id_number _) no_refusal))))

  scope_number : (n k : ℕ) → Number P (scope_fault n k)
  unfolding scope_fault
  scope_number n k =
      either (eqb k close_scope) (either (eqb n 0) (a_refusal scope) no_refusal)
      (either (eqb k end) (either (eqb n 0) no_refusal (a_refusal scope)) no_refusal)

  fault_number : (n : ℕ) (r : List ℕ) → Number P (fault_of n r)
  unfolding fault_of
  fault_number n r = either (eqb (body_fault r) 0) (scope_number n (get_or r 0 0)) (body_number r)

  -- ---- the reading: P holds of the number with which it is refused

  abbrev BadBy : Walk Pending → Type 0
  BadBy (Between p at) = Unit {0}
  BadBy (Within p at bs) = Unit {0}
  BadBy (Ended p at) = Unit {0}
  BadBy (Bad n at) = P n

  step_number : (p : Pending) (at : ℕ) (r : List ℕ) → BadBy (land (step_of p r) at r)
  unfolding step_of
  step_number p at r = go (eqb (fault_of p.scopes r) 0) refl (eqb (get_or r 0 0) end)
    where
      go : (t : Bool) → eqb (fault_of p.scopes r) 0 ≡ t → (s : Bool)
          → BadBy (land (pick t (pick s (Stop p) (Go (after p r))) (No (fault_of p.scopes r))) at r)
      go true e true = tt
      go true e false = tt
      go false e s = refused_by (fault_number p.scopes r) (eqb-false _ 0 e)

  abbrev step_at : Pending → ℕ → List ℕ → Out Pending
  step_at p at r = step_of p r

  opened_number : (p : Pending) (at : ℕ) (bs : List ℕ) (t : Bool) → BadBy (pick t (land (step_of p bs) at bs) (Within p at bs))
  opened_number p at bs true = step_number p at bs
  opened_number p at bs false = tt

  module _ (alone : Bool) where
    feed_number : (w : Walk Pending) (b : ℕ) → BadBy w → BadBy (feed Pending (head_of alone) step_at w b)
    feed_number (Between p at) b h = go (eqb (head_of alone p b) 0) refl
      where
        go : (t : Bool) → eqb (head_of alone p b) 0 ≡ t
            → BadBy (pick t (pick (leb (size_of b) 1) (land (step_of p (b ∷ [])) at (b ∷ [])) (Within p at (b ∷ [])))
            (Bad (head_of alone p b) at))
        go true e = opened_number p at (b ∷ []) (leb (size_of b) 1)
        go false e = refused_by (head_number alone _ b) (eqb-false _ 0 e)
    feed_number (Within p at bs) b h = opened_number p at (bs ++ b ∷ []) (leb (size_of (get_or (bs ++ b ∷ []) 0 0)) (length (bs ++ b ∷ [])))
    feed_number (Ended p at) b h = short
    feed_number (Bad n at) b h = h

    run_number : (w : Walk Pending) (bs : List ℕ) → BadBy w → BadBy (run Pending (head_of alone) step_at w bs)
    run_number w [] h = h
    run_number w (b ∷ bs) h = run_number (feed Pending (head_of alone) step_at w b) bs (feed_number w b h)

    closed_number : (w : Walk Pending) → BadBy w → FaultBy P (closed alone w)
    closed_number (Between p at) h = go (alone && eqb (length p.depths) 0)
      where
        go : (t : Bool) → FaultBy P {A = Unit {0}} (pick t (Fine tt) (Fault cut_short at))
        go true = tt
        go false = short
    closed_number (Within p at bs) h = short
    closed_number (Ended p at) h = tt
    closed_number (Bad n at) h = h

    -- of bytes that are not too long
    pub form_number : (bytes : List ℕ) → length bytes ≤ max_tape → FaultBy P (form_of alone bytes)
    unfolding form_of read_from
    form_number bytes few =
        let w = Between (begin alone) 0 in
        rw (le-ltb max_tape (length bytes) few) (closed_number (read_from alone w bytes) (run_number w bytes tt))
