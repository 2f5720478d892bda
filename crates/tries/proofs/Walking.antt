-- The walk over a tape: the place stays in the image, what each turn keeps, and the answer at each way out. Assumes nothing.
use Rattle.std.specs.Prelude.{Option}
use mathlib.Core.Bool.{Bool, true, false}
use mathlib.Core.List.{List, [], ◌∷◌}
use mathlib.Core.Path.{◌≡◌, refl, sym, ap, subst, ◌∙◌}
use Prim.Native.Nat.{ℕ, suc, ◌+◌, ◌≤◌, ◌<◌}
use native.Mathlib.Omega.{arith}
use lib.IntN.{ℤ}
use lib.ListN.{length, get_or, replicate}
use Rattle.refusals.specs.Answer as A
use Rattle.refusals.specs.Answer.{Answer, Done, Refused, pick}
use Rattle.refusals.specs.AnswerAt as At
use Rattle.refusals.specs.AnswerAt.{AnswerAt, Fine, Fault, and_then}
use Rattle.refusals.proofs.Never.{never}
use Rattle.pen.specs.declared.Pen.{Pen}
use Rattle.pen.specs.Pens.{size, begun}
use Rattle.segment.specs.Segment.{set_pc, emit, image_after}
use Rattle.segment.proofs.Kept.{set_pc_place, emit_has}
use Rattle.tape.specs.Record.{bytes_at}
use Rattle.tape.proofs.Records.{record_end}
use Rattle.form.specs.Form.{declares}
use Rattle.form.specs.Statements.{What, Instruction, Open, Close, Label, Constant, SetPlace, Byte, Word, Screen, what_of, is_inner, is_last}
use Rattle.form.specs.Statements.{statement_of, statements, statements_at}
use Rattle.form.proofs.Statements.{not_empty, statements_past, statements_last, statements_inner, statements_one}
use Rattle.evaluator.specs.Expression.{Value}
use Rattle.walk.specs.declared.Walk.{Walk}
use Rattle.walk.specs.Walk.{origin, walk, here, length_in, place_after, names_in, step}
use Rattle.walk.specs.Values.{number_of, value_at}
use Rattle.walk.specs.Numbers.{reads_noted}
use Rattle.walk.proofs.Records.{names_said, moved_most}
use Rattle.compares.specs.declared.Compares.{Compares}
use Rattle.tries.specs.Tries.{Page, page, drawn, Trying, trying, start, try_at, tried, tries}
use Rattle.tries.specs.Write.{range_of, image_or}
use Rattle.tries.specs.Steps.{tried_over}
use Rattle.tries.proofs.Lengths.{try_length}
use Rattle.tries.proofs.Passed.{tried_has}

-- ---- the place stays in the image

place_low : (x : What) (v : Option ℤ) (p : ℕ) → p ≤ 65536 → p + length_in x v ≤ 65536 → place_after x v p ≤ 65536
place_low SetPlace v p h l = moved_most v p 65536 h (omega arith)
place_low (Instruction mnemonic mode suffix) v p h l = l
place_low Byte v p h l = l
place_low Word v p h l = l
place_low (Screen petscii) v p h l = l
place_low (Open id) v p h l = h
place_low Close v p h l = h
place_low (Label id) v p h l = h
place_low (Constant id) v p h l = h

-- bytes that were drawn had room
drawn_low : (p : Page) (place : ℕ) (bs : List ℕ) (q : Page) → drawn p place bs ≡ Done q → place ≤ 65536 → place + length bs ≤ 65536
drawn_low p place [] q e h = omega arith
drawn_low p place (b ∷ bs) q e h = go (set_pc p.pen place) refl e
  where
    emitted : (pen : Pen) → pen.place ≡ place → (a : Answer Pen) → emit pen p.image (b ∷ bs) ≡ a
        → A.mapped (λ r. page r (image_after pen p.image (b ∷ bs))) a ≡ Done q → place + length (b ∷ bs) ≤ 65536
    emitted pen there (Done r) is k = omega (arith, (emit_has pen p.image (b ∷ bs) is).2)
    emitted pen there (Refused n) is k = never (cc)

    go : (a : Answer Pen) → set_pc p.pen place ≡ a
        → A.and_then a (λ pen. A.mapped (λ r. page r (image_after pen p.image (b ∷ bs))) (emit pen p.image (b ∷ bs))) ≡ Done q
        → place + length (b ∷ bs) ≤ 65536
    go (Done pen) is k = emitted pen (set_pc_place p.pen place is) (emit pen p.image (b ∷ bs)) refl k
    go (Refused n) is k = never (cc)

-- at most one name more
names_low : (r : List ℕ) (m : ℕ) → m + names_in (what_of r) ≤ m + 1
names_low r m = subst (λ (n : ℕ). n ≤ m + 1) (names_said r (get_or r 0 0) refl m) (go (declares (get_or r 0 0)))
  where
    go : (t : Bool) → pick t (m + 1) m ≤ m + 1
    go true = omega arith
    go false = omega arith

module _ (reads : (ℕ → Option ℤ) → ℤ → ℕ → Value) (c : Compares) (numbers : ℕ → Option ℤ) where
  -- u: behind a record that passed
  abbrev pub Low : Trying → Trying → Type 0
  Low t u = (u.walk.place ≤ 65536) × (u.walk.names ≤ t.walk.names + 1)

  tried_low : (t : Trying) (at : ℕ) (r : List ℕ) (u : Trying) → t.walk.place ≤ 65536
      → tried reads c numbers t (statement_of at r) ≡ Fine u → Low t u
  unfolding try_at step
  tried_low t at r u h e =
      let p = tried_has reads c numbers t (statement_of at r) e in
      let v = value_at reads numbers t.walk (statement_of at r) in
      let long = try_length c (numbers (suc t.walk.names)) (here t.walk) at (what_of r) v p.bytes p.fine in
      let room = drawn_low t.page t.walk.place p.bytes p.page p.draws h in
      subst (Low t) p.is (place_low (what_of r) (number_of v) t.walk.place h (omega (arith, long, room)), names_low r t.walk.names)

  pub over_low : (t : Trying) (at : ℕ) (r : List ℕ) (u : Trying) → t.walk.place ≤ 65536 → tried_over reads c numbers t at r ≡ Fine u → Low t u
  unfolding tried_over
  over_low t at r u h e = go (is_inner r) e
    where
      go : (i : Bool) → pick i (Fine t) (tried reads c numbers t (statement_of at r)) ≡ Fine u → Low t u
      go true k = let p : t ≡ u = cc in subst (Low t) p (h, omega arith)
      go false k = tried_low t at r u h k

  -- ---- record by record

  pub over_one : (tape : List ℕ) (at : ℕ) (t : Trying) → is_last (bytes_at tape at) ≡ false
      → tries reads c numbers t (statements_at tape at)
      ≡ and_then (tried_over reads c numbers t at (bytes_at tape at))
      (λ u. tries reads c numbers u (statements_at tape (at + length (bytes_at tape at))))
  unfolding tried_over
  over_one tape at t more = go (is_inner (bytes_at tape at)) refl
    where
      go : (i : Bool) → is_inner (bytes_at tape at) ≡ i → tries reads c numbers t (statements_at tape at)
          ≡ and_then (pick i (Fine t) (tried reads c numbers t (statement_of at (bytes_at tape at))))
          (λ u. tries reads c numbers u (statements_at tape (at + length (bytes_at tape at))))
      go true e = ap (tries reads c numbers t) (statements_inner tape at more e)
      go false e = ap (tries reads c numbers t) (statements_one tape at more e)

-- ---- the invariant: what is written, and then the walk from here, is the walk from the start

module _ (tape nodes : List ℕ) (numbers : ℕ → Option ℤ) (c : Compares) (initial : ℕ) where
  abbrev from : Trying → ℕ → AnswerAt Trying
  from t at = tries (reads_noted tape nodes) c numbers t (statements_at tape at)

  abbrev pub all : AnswerAt Trying
  all = tries (reads_noted tape nodes) c numbers (start (origin initial)) (statements tape)

  pub record Going (image₀ image : List ℕ) (pen : Pen) (w : Walk) (at : ℕ) : Type 0 where
    pub near : at ≤ length tape
    pub low : w.place ≤ 65536
    pub few : w.names ≤ at
    pub as_long : length image ≡ length image₀
    pub same : all ≡ from (trying w (page pen image)) at

  pub going_start : initial ≤ 65536 → (image : List ℕ) → image ≡ replicate size 0 → {pen : Pen} → pen ≡ begun initial initial
      → Going image image pen (walk initial 0) 0
  going_start h image e {pen} q = record {
    near = omega arith;
    low = h;
    few = omega arith;
    as_long = refl;
    same = λ i. from (trying (walk initial 0) (page (sym q i) (sym e i))) 0;
  }

  -- a: what the code answers where all is so
  abbrev Answers : AnswerAt (ℕ × ℕ) → List ℕ → Type 0
  Answers a image = (a ≡ At.mapped range_of all) × (image ≡ image_or image all)

  ended : (pen : Pen) (w : Walk) (image : List ℕ) → all ≡ Fine (trying w (page pen image))
      → {a : AnswerAt (ℕ × ℕ)} → a ≡ Fine (pen.start, pen.end) → Answers a image
  ended pen w image e h = (h ∙ sym (ap (At.mapped range_of) e), sym (ap (image_or image) e))

  module _ {image₀ image : List ℕ} {pen : Pen} {w : Walk} {at : ℕ} (g : Going image₀ image pen w at) where
    pub going_past : length tape ≤ at → {a : AnswerAt (ℕ × ℕ)} → a ≡ Fine (pen.start, pen.end) → Answers a image
    going_past h e =
        ended pen w image (g.same ∙ ap (tries (reads_noted tape nodes) c numbers (trying w (page pen image))) (statements_past tape at h)) e

    -- r: the record there, which is the last one or not
    module _ {r : List ℕ} (is : r ≡ bytes_at tape at) {l : Bool} (l-is : l ≡ is_last r) where
      pub going_last : l ≡ true → {a : AnswerAt (ℕ × ℕ)} → a ≡ Fine (pen.start, pen.end) → Answers a image
      going_last t e =
          let last = statements_last tape at (sym (l-is ∙ ap is_last is) ∙ t) in
          ended pen w image (g.same ∙ ap (tries (reads_noted tape nodes) c numbers (trying w (page pen image))) last) e

      pub inside : at + length r ≤ length tape
      inside = subst (λ (x : List ℕ). at + length x ≤ length tape) (sym is) (record_end tape at (length tape) g.near (omega arith))

      module _ (f : l ≡ false) where
        pub some_bytes : 0 < length r
        some_bytes = not_empty r (sym l-is ∙ f)

        -- what is made of it
        abbrev over : AnswerAt Trying
        over = tried_over (reads_noted tape nodes) c numbers (trying w (page pen image)) at r

        on : {a : AnswerAt Trying} → a ≡ over → all ≡ and_then a (λ u. from u (at + length r))
        on told =
            let t = trying w (page pen image) in
            g.same ∙ over_one (reads_noted tape nodes) c numbers tape at t (sym (l-is ∙ ap is_last is) ∙ f)
            ∙ ap (λ (x : List ℕ). and_then (tried_over (reads_noted tape nodes) c numbers t at x) (λ u. from u (at + length x))) (sym is)
            ∙ ap (λ (a : AnswerAt Trying). and_then a (λ u. from u (at + length r))) (sym told)

        -- next: the image that is left
        pub going_refused : (next : List ℕ) {n i : ℕ} → Fault n i ≡ over → Answers (Fault n i) next
        going_refused next told = let fault = on told in (sym (ap (At.mapped range_of) fault), sym (ap (image_or next) fault))

        pub going_on : (next : List ℕ) {p : Pen} {v : Walk} → Fine (trying v (page p next)) ≡ over → length next ≡ length image
            → Going image₀ next p v (at + length r)
        going_on next {p} {v} told same_length =
            let u = trying v (page p next) in
            let low = over_low (reads_noted tape nodes) c numbers (trying w (page pen image)) at r u g.low (sym told) in
            record {
              near = inside;
              low = low.0;
              few = omega (arith, low.1, g.few, some_bytes);
              as_long = same_length ∙ g.as_long;
              same = on told;
            }
