-- What stands at an offset, by the kind there and by how much is left of the tape. Assumes nothing.
use mathlib.Core.Bool.{Bool, true, false}
use mathlib.Core.List.{List, [], ◌∷◌}
use mathlib.Core.Path.{◌≡◌, refl, sym, ap, ◌∙◌}
use Prim.Native.Nat.{ℕ, suc, ◌+◌, ◌-◌, ◌≤◌, ◌<◌}
use native.Mathlib.Decide.{dec_lt}
use native.Mathlib.Omega.{arith}
use lib.Dec.{leb, ltb, eqb}
use lib.ListN.{length, get_or, take, drop, length-drop, drop_of_length-le}
use lib.Seq.{drop-cons, get_or-drop, get_or-take, length-take-le}
use borrow.Author.Tests.{le-leb, lt-leb, ne_eqb, eq-eqb, leb-true, leb-false, ltb-true, eqb-true, eqb-false}
use Rattle.refusals.proofs.Never.{never}
use Rattle.refusals.specs.Answer.{pick}
use Rattle.refusals.specs.AnswerAt.{AnswerAt, Fine, Fault, mapped, part}
use Rattle.refusals.specs.Table.{bad_record, cut_short}
use Rattle.tape.specs.Kinds.{instruction, Row, table, lookup, size_of, is_expression, is_statement}
use Rattle.tape.specs.Record.{record_of, record_at, bytes_at}

-- ---- kinds

module _ (k n : ℕ) (is : n ≡ size_of k) where
  -- what is no kind is none of either sort
  pub no_expression : n ≡ 0 → false ≡ is_expression k
  unfolding is_expression
  no_expression z = simp (eq-eqb _ 0 (sym is ∙ z))

  pub no_statement : n ≡ 0 → false ≡ is_statement k
  unfolding is_statement
  no_statement z = simp (eq-eqb _ 0 (sym is ∙ z))

  -- what is one, and low enough, is of the first sort
  pub an_expression : (n ≡ 0 → ⊥) → ltb k instruction ≡ is_expression k
  unfolding is_expression
  an_expression z = simp (ne_eqb _ 0 (λ e. z (is ∙ e)))

-- a kind of which expressions are made is one, and is below the others
module _ (k : ℕ) (is : is_expression k ≡ true) where
  pub expression_known : size_of k ≡ 0 → ⊥
  expression_known z = never (let e = no_expression k (size_of k) refl z in cc)

  pub expression_below : k < instruction
  expression_below = ltb-true k instruction (an_expression k (size_of k) refl expression_known ∙ is)

-- no record is longer than ten bytes
abbrev AllBelow : List Row → Type 0
AllBelow [] = Unit {0}
AllBelow (r ∷ rs) = (r.body ≤ 9) × AllBelow rs

lookup_most : (rs : List Row) (k : ℕ) → AllBelow rs → lookup rs k ≤ 10
lookup_most [] k s = omega arith
lookup_most (r ∷ rs) k s = go (eqb k r.kind) (lookup_most rs k s.1)
  where
    go : (t : Bool) → lookup rs k ≤ 10 → pick t (suc r.body) (lookup rs k) ≤ 10
    go true h = omega (arith, s.0)
    go false h = h

pub size_most : (k : ℕ) → size_of k ≤ 10
unfolding size_of
size_most k = lookup_most table k (omega arith)

-- ---- the record at an offset

module _ (tape : List ℕ) (at : ℕ) where
  -- past the end
  pub record_past : length tape ≤ at → record_at tape at ≡ Fault cut_short (length tape)
  unfolding record_at
  record_past h = rw (drop_of_length-le tape h)

  -- within the tape: n is the size of the kind that stands there, and so many bytes are left
  abbrev left : ℕ
  left = length tape - at

  abbrev first : ℕ → List ℕ
  first n = take n (drop at tape)

  module _ (n : ℕ) (inside : at < length tape) (is : n ≡ size_of (get_or tape at 0)) where
    record_by : record_at tape at ≡ pick (eqb n 0) (Fault bad_record at) (pick (leb n left) (Fine (first n)) (Fault cut_short at))
    unfolding record_at
    record_by = go (drop at tape) (drop-cons tape at 0 inside) (length-drop at tape)
      where
        go : (l : List ℕ) → l ≡ get_or tape at 0 ∷ drop (suc at) tape → length l ≡ left
            → record_of (length tape) at l ≡ pick (eqb n 0) (Fault bad_record at) (pick (leb n left) (Fine (take n l)) (Fault cut_short at))
        go l e h = rw (← h, e, is)

    pub record_unknown : n ≡ 0 → record_at tape at ≡ Fault bad_record at
    record_unknown z = record_by ∙ rw (eq-eqb n 0 z)

    pub record_cut : (n ≡ 0 → ⊥) → left < n → record_at tape at ≡ Fault cut_short at
    record_cut z h = record_by ∙ rw (ne_eqb n 0 z, lt-leb n _ h)

    pub record_whole : (n ≡ 0 → ⊥) → n ≤ left → record_at tape at ≡ Fine (first n)
    record_whole z h = record_by ∙ rw (ne_eqb n 0 z, le-leb n _ h)

    pub whole_length : n ≤ left → length (first n) ≡ n
    whole_length h = length-take-le n (drop at tape) (rw (length-drop at tape) h)

  -- what holds of each of these answers holds of the record
  abbrev size : ℕ
  size = size_of (get_or tape at 0)

  record_is : (P : AnswerAt (List ℕ) → Type 0) → (length tape ≤ at → P (Fault cut_short (length tape)))
      → (size ≡ 0 → P (Fault bad_record at)) → ((size ≡ 0 → ⊥) → left < size → P (Fault cut_short at))
      → ((size ≡ 0 → ⊥) → size ≤ left → at < length tape → length (first size) ≡ size → P (Fine (first size))) → P (record_at tape at)
  record_is P past unknown cut whole =
      elim (dec_lt at (length tape)) [
        | yes h ↦ go h (eqb size 0) refl (leb size left) refl
        | no h ↦ let p : length tape ≤ at = omega arith in rw (record_past p) (past p)
      ]
    where
      go : at < length tape → (a : Bool) → eqb size 0 ≡ a → (b : Bool) → leb size left ≡ b → P (record_at tape at)
      go h true p b q = rw (record_unknown size h refl (eqb-true size 0 p)) (unknown (eqb-true size 0 p))
      go h false p true q =
          let some = eqb-false size 0 p in
          let most = leb-true size left q in
          rw (record_whole size h refl some most) (whole some most h (whole_length size h refl most))
      go h false p false q =
          let some = eqb-false size 0 p in
          let few = leb-false size left q in
          rw (record_cut size h refl some few) (cut some few)

  -- no record of a tape is longer than ten bytes
  pub record_most : length (bytes_at tape at) ≤ 10
  record_most =
      record_is (λ a. length (part a) ≤ 10) (λ h. omega arith) (λ h. omega arith) (λ some h. omega arith)
      (λ some h l e. omega (arith, size_most (get_or tape at 0)))

  -- n is the length of a whole record: those n bytes are it, and they lie within the tape
  pub found_whole : (n : ℕ) → Fine n ≡ mapped length (record_at tape at) → (at + n ≤ length tape) × (first n ≡ bytes_at tape at)
  found_whole n =
      record_is (λ a. Fine n ≡ mapped length a → (at + n ≤ length tape) × (first n ≡ part a))
      (λ h e. never (cc)) (λ h e. never (cc)) (λ some h e. never (cc))
      (λ some h l p e. let is : n ≡ size = number e ∙ p in (omega arith, ap first is))
    where
      number : {m : ℕ} → ◌≡◌ {A = AnswerAt ℕ} (Fine n) (Fine m) → n ≡ m
      number e = cc

  pub found_none : (n i : ℕ) → Fault n i ≡ mapped length (record_at tape at) → [] ≡ bytes_at tape at
  found_none n i =
      record_is (λ a. Fault n i ≡ mapped length a → [] ≡ part a) (λ h e. refl) (λ h e. refl) (λ some h e. refl) (λ some h l p e. never (cc))

  -- a record ends within the tape, or, where there is none, where it began
  pub record_end : (m : ℕ) → at ≤ m → length tape ≤ m → at + length (bytes_at tape at) ≤ m
  record_end m h l =
      record_is (λ a. at + length (part a) ≤ m) (λ p. omega arith) (λ p. omega arith) (λ some p. omega arith) (λ some p q e. omega arith)

  -- ---- where a kind stands

  module _ (inside : at < length tape) (kind : size ≡ 0 → ⊥) where
    -- no byte of the record is there only where it is cut short
    pub record_none : length (bytes_at tape at) ≡ 0 → left < size
    record_none =
        record_is (λ a. length (part a) ≡ 0 → left < size) (λ p e. absurd (omega arith)) (λ p e. absurd (kind p)) (λ some p e. p)
        (λ some p q e z. absurd (kind (sym e ∙ z)))

    -- else it is those bytes, as many as its kind says
    pub record_some : (length (bytes_at tape at) ≡ 0 → ⊥) → (bytes_at tape at ≡ first size) × (size ≤ left)
    record_some =
        record_is (λ a. (length (part a) ≡ 0 → ⊥) → (part a ≡ first size) × (size ≤ left))
        (λ p x. absurd (x refl)) (λ p x. absurd (x refl)) (λ some p x. absurd (x refl))
        (λ some p q e x. (refl, p))

    -- and its first byte is the kind
    pub record_kind : (length (bytes_at tape at) ≡ 0 → ⊥) → get_or (bytes_at tape at) 0 0 ≡ get_or tape at 0
    record_kind z =
        let whole = record_some z in
        let first_byte : at + 0 ≡ at = omega arith in
        ap (λ (r : List ℕ). get_or r 0 0) whole.0
        ∙ get_or-take size (drop at tape) 0 0 (omega arith)
        ∙ get_or-drop at tape 0 0
        ∙ ap (λ (i : ℕ). get_or tape i 0) first_byte
