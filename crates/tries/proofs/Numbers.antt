-- The numbers with which the tries of an accepted tape are refused: what holds of each of them holds of the number that is answered.
-- Assumes nothing.
use Rattle.std.specs.Prelude.{Option, None, Some}
use mathlib.Core.Bool.{Bool, true, false, not}
use mathlib.Core.List.{List, [], ◌∷◌, ◌++◌}
use mathlib.Core.Path.{◌≡◌, refl, sym, subst, ◌∙◌}
use Prim.Native.Nat.{ℕ, zero, suc, ◌+◌, ◌≤◌, ◌<◌}
use native.Mathlib.Omega.{arith}
use lib.Dec.{eqb}
use lib.IntN.{ℤ, pos}
use lib.ListN.{length, get_or, drop, replicate}
use borrow.Author.Tests.{eq-eqb, ne_eqb, le-leb, eqb-true, eqb-false, ltb-false, not-true}
use Rattle.refusals.specs.Answer as A
use Rattle.refusals.specs.Answer.{Answer, Done, Refused, pick}
use Rattle.refusals.specs.AnswerAt as At
use Rattle.refusals.specs.AnswerAt.{AnswerAt, Fine, Fault, and_then}
use Rattle.refusals.specs.Says.{number_of}
use Rattle.refusals.specs.Table.{argument, bad_record, no_row, arithmetic, unresolved, too_small, too_far, outside}
use Rattle.refusals.specs.declared.Refusal.{Refusal}
use Rattle.int64.specs.Num.{mod_z}
use Rattle.opcodes.specs.declared.Form.{Form}
use Rattle.opcodes.specs.Manual.{forms_of, is_branch}
use Rattle.opcodes.specs.Encode as encode
use Rattle.opcodes.specs.Encode.{takes, bytes_of, encode_forms, in_range, encode_of}
use Rattle.branch.specs.Branch.{offset, in_reach, distance_of}
use Rattle.pen.specs.declared.Pen.{Pen}
use Rattle.pen.specs.Pens.{sound, sound_over, of_pen, of_both, fits}
use Rattle.segment.specs.Segment.{set_pc, widened, emit, image_after}
use Rattle.segment.proofs.Kept.{set_pc_sound, emit_sound, emit_length}
use Rattle.tape.specs.Kinds.{flags, binary, instruction, end}
use Rattle.tape.specs.Record.{bytes_at}
use Rattle.form.specs.Form.{Pending, pending, begin, instruction_fault, body_fault, scope_fault, fault_of, top, has_expression, followed}
use Rattle.form.specs.Form.{scopes_after, after, tape_form}
use Rattle.form.specs.Statements.{What, Instruction, Open, Close, Label, Constant, SetPlace, Byte, Word, Screen, what_of, is_followed}
use Rattle.form.specs.Statements.{Statement, statement_of, is_inner, statements_at, statements, placed}
use Rattle.form.proofs.Faults.{body_instruction}
use Rattle.form.proofs.Sound.{Sound, form_sound, sound_fault}
use Rattle.form.proofs.Statements.{followed_instruction, followed_other, not_empty, statements_past, statements_last, sound_on, sound_last}
use Rattle.form.proofs.Numbers.{RefusedBy, FaultBy, placed_by}
use Rattle.form.proofs.Said.{by_kind}
use Rattle.evaluator.specs.Expression.{Value, Number, Unresolved, Refuses}
use Rattle.evaluator.specs.Accepted.{Computed}
use Rattle.walk.specs.Walk.{Origin, is_place, here}
use Rattle.walk.specs.Values.{eq_value, value_at, step_at}
use Rattle.compares.specs.declared.Compares.{Compares}
use Rattle.tries.specs.Try.{given, compared, instruction_of, try_of}
use Rattle.tries.specs.Tries.{Page, page, drawn, Trying, trying, start, try_at, tried, tries}
use Rattle.tries.specs.Steps.{tried_over}
use Rattle.tries.proofs.Walking.{over_low, over_one}
use Rattle.tries.proofs.Sound.{Whole, whole_blank}

-- ---- what an accepted record says

-- an instruction has a row
abbrev HasRow : What → Type 0
HasRow (Instruction mnemonic mode suffix) = instruction_fault mnemonic mode suffix ≡ 0
HasRow (Open id) = Unit {0}
HasRow Close = Unit {0}
HasRow (Label id) = Unit {0}
HasRow (Constant id) = Unit {0}
HasRow SetPlace = Unit {0}
HasRow Byte = Unit {0}
HasRow Word = Unit {0}
HasRow (Screen petscii) = Unit {0}

body_sound : (n : ℕ) (r : List ℕ) → fault_of n r ≡ 0 → body_fault r ≡ 0
unfolding fault_of
body_sound n r e = go (eqb (body_fault r) 0) refl e
  where
    go : (t : Bool) → eqb (body_fault r) 0 ≡ t → pick t (scope_fault n (get_or r 0 0)) (body_fault r) ≡ 0 → body_fault r ≡ 0
    go true p e = eqb-true (body_fault r) 0 p
    go false p e = e

has_row : (n : ℕ) (r : List ℕ) → fault_of n r ≡ 0 → HasRow (what_of r)
unfolding what_of
has_row n r e =
    by_kind r (λ k x. k ≡ get_or r 0 0 → HasRow x)
    (λ is. body_instruction r instruction is (get_or r 1 0) refl refl (get_or r 2 0) (get_or r 3 0) refl refl ∙ body_sound n r e)
    (λ is. tt) (λ is. tt) (λ is. tt) (λ is. tt) (λ is. tt) (λ is. tt) (λ is. tt) (λ k other is. tt) (get_or r 0 0) refl

-- where an expression follows a statement, one does
followed_one : (r : List ℕ) → is_inner r ≡ false → is_followed (what_of r) ≡ true → followed (get_or r 0 0) (get_or r 2 0) ≡ 1
unfolding followed
followed_one r outer e =
    let high = ltb-false (get_or r 0 0) instruction outer in
    let no_binary : (get_or r 0 0 ≡ binary → ⊥) = λ z. omega arith in
    let no_flags : (get_or r 0 0 ≡ flags → ⊥) = λ z. omega arith in
    rw (ne_eqb _ binary no_binary, ne_eqb _ flags no_flags) (go (eqb (get_or r 0 0) instruction) refl)
  where
    go : (t : Bool) → eqb (get_or r 0 0) instruction ≡ t
        → ◌≡◌ {A = ℕ} (pick t (pick (eqb (get_or r 2 0) 0) 0 1) (pick (has_expression (get_or r 0 0)) 1 0)) 1
    go true is =
        let h : Bool = not (eqb (get_or r 2 0) 0) in
        let mode = not-true (eqb (get_or r 2 0) 0) (followed_instruction r (get_or r 0 0) refl (eqb-true _ instruction is) {h = h} refl ∙ e) in
        rw mode
    go false is =
        let h : Bool = has_expression (get_or r 0 0) in
        let has : h ≡ true = followed_other r (get_or r 0 0) refl (eqb-false _ instruction is) {h = h} refl ∙ e in
        rw has

module _ (P : ℕ → Type 0) (far : P too_far) (small : P too_small) (room : P outside) where
  -- ---- an instruction of a row

  tried_number : (fs : List Form) (z : ℤ) → RefusedBy P (encode.tried fs z)
  tried_number [] z = small
  tried_number (f ∷ fs) z = go (takes f z) (tried_number fs z)
    where
      go : (t : Bool) → RefusedBy P (encode.tried fs z) → RefusedBy P (pick t (Done (bytes_of f z)) (encode.tried fs z))
      go true h = tt
      go false h = h

  encode_number : (m o s : ℕ) (z : ℤ) → instruction_fault m o s ≡ 0 → RefusedBy P (encode_of m o s z)
  unfolding encode_of instruction_fault
  encode_number m o s z e = go (in_range m o s) (forms_of m o s) e
    where
      go : (t : Bool) (fs : List Form) → pick t (pick (eqb (length fs) 0) no_row 0) bad_record ≡ 0
          → RefusedBy P (pick t (encode_forms fs z) (Refused argument))
      go true [] e = absurd (omega arith)
      go true (f ∷ fs) e = tried_number (f ∷ fs) z
      go false fs e = absurd (omega arith)

  distance_number : (place z : ℤ) → RefusedBy P (distance_of place z)
  unfolding distance_of
  distance_number place z = go (in_reach (offset place z)) (mod_z 256 (offset place z))
    where
      go : (t : Bool) (b : ℕ) → RefusedBy P (pick t (Done b) (Refused too_far))
      go true b = tt
      go false b = far

  instruction_number : (m o s : ℕ) (place z : ℤ) → instruction_fault m o s ≡ 0 → RefusedBy P (instruction_of m o s place z)
  unfolding instruction_of
  instruction_number m o s place z e = go (is_branch m o s) _ (distance_number _ z)
    where
      go : (t : Bool) (d : Answer ℕ) → RefusedBy P d
          → RefusedBy P (pick t (A.and_then d (λ b. encode_of m o s (pos b))) (encode_of m o s z))
      go true (Done b) h = encode_number m o s (pos b) e
      go true (Refused n) h = h
      go false d h = encode_number m o s z e

  -- ---- what is written

  -- it is whole behind what is drawn
  abbrev Draws : Answer Page → Type 0
  Draws (Done q) = Whole q
  Draws (Refused n) = P n

  set_number : (p : Pen) (place : ℕ) → sound p ≡ true → place ≤ 65536 → RefusedBy P (set_pc p place)
  unfolding set_pc of_pen
  set_number p place s low = rw (s, le-leb place 65536 low) tt

  emit_number : (p : Pen) (image bs : List ℕ) → sound p ≡ true → length image ≡ 65536 → RefusedBy P (emit p image bs)
  unfolding emit of_both sound_over
  emit_number p image bs s long = rw (eq-eqb (length image) 65536 long, s) (go (fits p (length bs)))
    where
      go : (t : Bool) → RefusedBy P (pick t (Done (widened p (length bs))) (Refused outside))
      go true = tt
      go false = room

  drawn_number : (p : Page) (place : ℕ) (bs : List ℕ) → Whole p → place ≤ 65536 → Draws (drawn p place bs)
  drawn_number p place [] w low = w
  drawn_number p place (b ∷ bs) w low = go (set_pc p.pen place) refl (set_number p.pen place w.pen low)
    where
      emitted : (pen : Pen) → sound pen ≡ true → (a : Answer Pen) → emit pen p.image (b ∷ bs) ≡ a → RefusedBy P a
          → Draws (A.mapped (λ q. page q (image_after pen p.image (b ∷ bs))) a)
      emitted pen s (Done q) is h = record {
        pen = emit_sound pen p.image (b ∷ bs) is;
        image = emit_length pen p.image (b ∷ bs) ∙ w.image;
      }
      emitted pen s (Refused n) is h = h

      go : (a : Answer Pen) → set_pc p.pen place ≡ a → RefusedBy P a
          → Draws (A.and_then a (λ pen. A.mapped (λ q. page q (image_after pen p.image (b ∷ bs))) (emit pen p.image (b ∷ bs))))
      go (Done pen) is h =
          let s = set_pc_sound p.pen place is in
          emitted pen s (emit pen p.image (b ∷ bs)) refl (emit_number pen p.image (b ∷ bs) s w.image)
      go (Refused n) is h = h

  -- ---- a statement

  -- the refusal of what is compared, if it is
  abbrev pub Differs : Option Refusal → Type 0
  Differs None = Unit {0}
  Differs (Some why) = P (number_of why)

  module _ (sum : P arithmetic) (no_number : P unresolved) (c : Compares) (label : Differs c.label) (constant : Differs c.constant) where
    -- what its expression comes to
    abbrev ValueBy : Value → Type 0
    ValueBy (Number z) = Unit {0}
    ValueBy (Unresolved i) = Unit {0}
    ValueBy (Refuses n i) = P n

    computed_by : (len : ℕ) (v : Value) → Computed len v → ValueBy v
    computed_by len (Number z) h = tt
    computed_by len (Unresolved i) h = tt
    computed_by len (Refuses n i) h = subst P (sym h.0) sum

    given_number : (at : ℕ) (v : Value) (f : ℤ → AnswerAt (List ℕ)) → ValueBy v → ((z : ℤ) → FaultBy P (f z)) → FaultBy P (given at v f)
    given_number at (Number z) f h on = on z
    given_number at (Unresolved i) f h on = no_number
    given_number at (Refuses n i) f h on = h

    compared_number : (r : Option Refusal) → Differs r → (own : Option ℤ) (z : ℤ) (at : ℕ) → FaultBy P (compared r own z at)
    compared_number None h own z at = tt
    compared_number (Some why) h own z at = go (eq_value own (Some z))
      where
        go : (t : Bool) → FaultBy P {A = List ℕ} (pick t (Fine []) (Fault (number_of why) at))
        go true = tt
        go false = h

    place_number : (z : ℤ) (at : ℕ) → FaultBy P {A = List ℕ} (pick (is_place z) (Fine []) (Fault outside at))
    place_number z at = go (is_place z)
      where
        go : (t : Bool) → FaultBy P {A = List ℕ} (pick t (Fine []) (Fault outside at))
        go true = tt
        go false = room

    module _ (own : Option ℤ) (place : ℤ) (at : ℕ) where
      try_number : (x : What) (v : Value) → HasRow x → ValueBy v → FaultBy P (try_of c own place at x v)
      try_number (Open id) v row h = tt
      try_number Close v row h = tt
      try_number (Label id) v row h = compared_number c.label label own place at
      try_number (Constant id) v row h =
          given_number at v (λ z. compared c.constant own z at) h (λ z. compared_number c.constant constant own z at)
      try_number SetPlace v row h = given_number at v (λ z. pick (is_place z) (Fine []) (Fault outside at)) h (λ z. place_number z at)
      try_number (Instruction m o s) v row h = go (eqb o 0)
        where
          go : (t : Bool)
              → FaultBy P (pick t (placed at (encode_of m o s (pos 0))) (given at v (λ z. placed at (instruction_of m o s place z))))
          go true = placed_by P at (encode_of m o s (pos 0)) (encode_number m o s (pos 0) row)
          go false =
              given_number at v (λ z. placed at (instruction_of m o s place z)) h
              (λ z. placed_by P at (instruction_of m o s place z) (instruction_number m o s place z row))
      try_number Byte v row h = given_number at v _ h (λ z. tt)
      try_number Word v row h = given_number at v _ h (λ z. tt)
      try_number (Screen petscii) v row h = tt

    -- ---- a record of an accepted tape, over what is whole

    abbrev Tries : AnswerAt Trying → Type 0
    Tries (Fine t) = Whole t.page
    Tries (Fault n i) = P n

    module _ (reads : (ℕ → Option ℤ) → ℤ → ℕ → Value) (numbers : ℕ → Option ℤ) where
      tried_statement : (t : Trying) (x : Statement) → HasRow x.says → ValueBy (value_at reads numbers t.walk x)
          → t.walk.place ≤ 65536 → Whole t.page → Tries (tried reads c numbers t x)
      unfolding tried try_at
      tried_statement t x row h low w =
          go (try_of c (numbers (suc t.walk.names)) (here t.walk) x.at x.says (value_at reads numbers t.walk x))
          (try_number _ _ x.at x.says _ row h)
        where
          landed : (a : Answer Page) → Draws a → Tries (At.mapped (λ p. trying (step_at reads numbers t.walk x) p) (placed x.at a))
          landed (Done q) d = d
          landed (Refused n) d = d

          go : (a : AnswerAt (List ℕ)) → FaultBy P a
              → Tries (and_then a (λ bs. At.mapped (λ p. trying (step_at reads numbers t.walk x) p)
              (placed x.at (drawn t.page t.walk.place bs))))
          go (Fine bs) f = landed (drawn t.page t.walk.place bs) (drawn_number t.page t.walk.place bs w low)
          go (Fault n i) f = f

      -- an expression of the tape that stands where one is to come is computed
      module _ (tape : List ℕ) (computes : (n d : ℕ) (ds : List ℕ) (at : ℕ) (place : ℤ) → 0 < d
          → Sound false tape (pending n (d ∷ ds)) at → Computed (length tape) (reads numbers place at)) where
        module _ (t : Trying) (at : ℕ) (p : Pending) (sound-here : Sound false tape p at)
            (goes_on : eqb (get_or (bytes_at tape at) 0 0) end ≡ false) where
          abbrev r : List ℕ
          r = bytes_at tape at

          value_number : is_inner r ≡ false → ValueBy (value_at reads numbers t.walk (statement_of at r))
          unfolding after
          value_number outer = go (is_followed (what_of r)) refl
            where
              go : (f : Bool) → is_followed (what_of r) ≡ f
                  → ValueBy (pick f (reads numbers (here t.walk) (at + length r)) (Unresolved (at + length r)))
              go true e =
                  let n : ℕ = scopes_after p.scopes (get_or r 0 0) in
                  let d : ℕ = top p.depths + 1 in
                  let ds : List ℕ = drop 1 p.depths in
                  let behind : Sound false tape (pending n (d ∷ ds)) (at + length r) =
                  subst (λ (k : ℕ). Sound false tape (pending n (replicate k d ++ ds)) (at + length r)) (followed_one r outer e)
                  (sound_on tape at p sound-here goes_on) in
                  let v = reads numbers (here t.walk) (at + length r) in
                  computed_by (length tape) v (computes n d ds (at + length r) (here t.walk) (omega arith) behind)
              go false e = tt

          over_number : t.walk.place ≤ 65536 → Whole t.page → Tries (tried_over reads c numbers t at r)
          unfolding tried_over
          over_number low w = go (is_inner r) refl
            where
              go : (i : Bool) → is_inner r ≡ i → Tries (pick i (Fine t) (tried reads c numbers t (statement_of at r)))
              go true e = w
              go false e =
                  let row = has_row p.scopes r (sound_fault false tape at p refl sound-here) in
                  tried_statement t (statement_of at r) row (value_number e) low w

        -- ---- the statements from an offset on, where at most n bytes are left

        tries_from_lem : (n : ℕ) (t : Trying) (at : ℕ) (p : Pending) → length tape ≤ at + n → Sound false tape p at → t.walk.place ≤ 65536
            → Whole t.page → FaultBy P (tries reads c numbers t (statements_at tape at))
        tries_from_lem zero t at p most s low w = rw (statements_past tape at (omega arith)) tt
        tries_from_lem (suc n) t at p most s low w =
            go (eqb (get_or (bytes_at tape at) 0 0) end) refl
            (λ u more. tries_from_lem n u (at + length (bytes_at tape at)) (after p (bytes_at tape at))
            (omega (arith, not_empty (bytes_at tape at) (sound_last tape at p s more))) (sound_on tape at p s more))
          where
            next : ℕ
            next = at + length (bytes_at tape at)

            rest : Trying → AnswerAt Trying
            rest u = tries reads c numbers u (statements_at tape next)

            after_one : ((u : Trying) → u.walk.place ≤ 65536 → Whole u.page → FaultBy P (rest u))
                → (a : AnswerAt Trying) → tried_over reads c numbers t at (bytes_at tape at) ≡ a → Tries a → FaultBy P (and_then a rest)
            after_one on (Fine u) is h = on u (over_low reads c numbers t at (bytes_at tape at) u low is).0 h
            after_one on (Fault m i) is h = h

            go : (e : Bool) → eqb (get_or (bytes_at tape at) 0 0) end ≡ e
                → ((u : Trying) → eqb (get_or (bytes_at tape at) 0 0) end ≡ false → u.walk.place ≤ 65536 → Whole u.page
                → FaultBy P (rest u))
                → FaultBy P (tries reads c numbers t (statements_at tape at))
            go true e on = rw (statements_last tape at (sound_last tape at p s e)) tt
            go false e on =
                rw (over_one reads c numbers tape at t (sound_last tape at p s e))
                (after_one (λ u. on u e) (tried_over reads c numbers t at (bytes_at tape at)) refl (over_number t at p s e low w))

        -- of a whole tape
        pub tries_number : tape_form tape ≡ Fine tt → (o : Origin) → o.initial ≤ 65536
            → FaultBy P (tries reads c numbers (start o) (statements tape))
        tries_number fine o low =
            tries_from_lem (length tape) (start o) 0 (begin false) (omega arith) (form_sound false tape fine) low (whole_blank o low)
