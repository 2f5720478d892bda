-- The checker's tries are fine exactly where every record is right, and leave a page that holds what the records write.
-- Assumes nothing.
use Rattle.std.specs.Prelude.{Option, None, Some}
use mathlib.Core.List.{List, [], ◌∷◌}
use mathlib.Core.Logic.{◌↔◌}
use mathlib.Core.Path.{◌≡◌, refl, sym, ap, subst, ◌∙◌}
use Prim.Native.Nat.{ℕ, zero, suc, ◌+◌, ◌≤◌, ◌<◌}
use native.Mathlib.Decide.{dec_lt}
use native.Mathlib.Omega.{arith}
use lib.IntN.{ℤ}
use lib.ListN.{length, get_or, take, drop, drop_of_length-le}
use lib.Seq.{drop-cons}
use Rattle.refusals.specs.AnswerAt.{AnswerAt, Fine, and_then}
use Rattle.refusals.proofs.Answers.{fine_then}
use Rattle.pen.specs.Pens.{size}
use Rattle.form.specs.Statements.{Constant, Statement}
use Rattle.evaluator.specs.Expression.{Value}
use Rattle.walk.specs.declared.Walk.{Walk}
use Rattle.walk.specs.Walk.{Origin, begin, here, step}
use Rattle.walk.specs.Values.{value_at, step_at, declarations}
use Rattle.compares.specs.Compared.{plain, checker}
use Rattle.tries.specs.Tries.{Page, blank, start, Trying, trying, try_at, tried, tries}
use Rattle.tries.proofs.Passed.{tried_has, tried_is}
use Rattle.number_list.specs.Lists.{counts, values_of}
use Rattle.demand.specs.Demand.{behind, statement_at, numbers, walk_at, own_at, write_at, Right}
use Rattle.demand.proofs.Compared.{Numbered, try_right, own_value}
use Rattle.demand.proofs.Pages.{Holds, holds_blank, draws, drew}

-- ---- the walk at statement i

module _ (reads : (ℕ → Option ℤ) → ℤ → ℕ → Value) (numbers : ℕ → Option ℤ) where
  -- as many names are declared as those before it declare
  behind_names : (w : Walk) (xs : List Statement) → (behind reads numbers w xs).names ≡ w.names + declarations xs
  unfolding step
  behind_names w [] = omega arith
  behind_names w (x ∷ xs) = omega (arith, behind_names (step_at reads numbers w x) xs)

  -- and behind it is where the next one stands
  behind_more : (w : Walk) (xs : List Statement) (i : ℕ) → i < length xs
      → step_at reads numbers (behind reads numbers w (take i xs)) (statement_at xs i) ≡ behind reads numbers w (take (suc i) xs)
  behind_more w [] i l = absurd (omega arith)
  behind_more w (x ∷ xs) zero l = refl
  behind_more w (x ∷ xs) (suc i) l = behind_more (step_at reads numbers w x) xs i (omega arith)

-- ---- record i

module _ (reads : (ℕ → Option ℤ) → ℤ → ℕ → Value) (xs : List Statement) (o : Origin) (N : List ℤ) where
  -- the number of each node, where the walk is at record i, and what record i says
  abbrev ns : ℕ → Option ℤ
  ns = numbers reads xs o N

  abbrev w : ℕ → Walk
  w i = walk_at reads xs o N i

  abbrev x : ℕ → Statement
  x i = statement_at xs i

  -- a page that holds what the records before it write
  abbrev pub HoldsAt : ℕ → Page → Type 0
  HoldsAt i p = Holds (write_at reads xs o N) o i p

  module _ (i : ℕ) where
    abbrev own : ℤ
    own = own_at reads xs o N i

    -- its number in the list is what its name has
    own_number : counts (x i).says ≡ 1 → ns (suc (w i).names) ≡ Some own
    own_number e =
        let names : (w i).names ≡ declarations (take i xs) = omega (arith, behind_names reads ns (begin o) (take i xs)) in
        ap (λ (k : ℕ). get_or (values_of xs N) k None) names ∙ own_value xs N i e

    -- its try, with its number compared and without
    try_at_lem : (bs : List ℕ) → (try_at reads checker ns (w i) (x i) ≡ Fine bs)
        ↔ ((try_at reads plain ns (w i) (x i) ≡ Fine bs) × Numbered own (here (w i)) (x i).says (value_at reads ns (w i) (x i)))
    unfolding try_at
    try_at_lem bs =
        try_right (ns (suc (w i).names)) own (x i).at bs (here (w i)) (x i).says (value_at reads ns (w i) (x i)) own_number

    -- a constant's expression is read
    constant_read : (id : ℕ) → (x i).says ≡ Constant id → value_at reads ns (w i) (x i) ≡ reads ns (here (w i)) (x i).expression
    constant_read id e = rw e

    right_numbered : Right reads xs o N i → Numbered own (here (w i)) (x i).says (value_at reads ns (w i) (x i))
    right_numbered r = record { label = r.label; constant = λ id c. constant_read id c ∙ r.constant id c }

    module _ (p : Page) (h : HoldsAt i p) where
      -- if it passes, it is right, and the page behind it holds what it writes too
      passed_right : (u : Trying) → tried reads checker ns (trying (w i) p) (x i) ≡ Fine u
          → Right reads xs o N i × ((q : Page) × (trying (step_at reads ns (w i) (x i)) q ≡ u) × HoldsAt (suc i) q)
      passed_right u e =
          let t = tried_has reads checker ns (trying (w i) p) (x i) e in
          let (fine, numbered) = (try_at_lem t.bytes).0 t.fine in
          let mine : (write_at reads xs o N i).bytes ≡ t.bytes = rw fine in
          let (room, holds) = drew (write_at reads xs o N) o i p h t.page (rw mine t.draws) in (
            record {
              fine = fine ∙ ap Fine (sym mine);
              room = room;
              label = numbered.label;
              constant = λ id c. sym (constant_read id c) ∙ numbered.constant id c;
            },
            (t.page, t.is, holds),
          )

      -- if it is right, it passes
      right_passes : Right reads xs o N i → (u : Trying) × (tried reads checker ns (trying (w i) p) (x i) ≡ Fine u)
      right_passes r =
          let bs = (write_at reads xs o N i).bytes in
          let (q, d) = draws (write_at reads xs o N) o i p h r.room in
          let fine = (try_at_lem bs).1 (r.fine, right_numbered r) in
          (trying (step_at reads ns (w i) (x i)) q, tried_is reads checker ns (trying (w i) p) (x i) bs q fine d)

  -- ---- from record i on, where m are left

  abbrev tries_from : ℕ → Page → AnswerAt Trying
  tries_from i p = tries reads checker ns (trying (w i) p) (drop i xs)

  abbrev RightFrom : ℕ → Type 0
  RightFrom i = (j : ℕ) → i ≤ j → j < length xs → Right reads xs o N j

  -- behind the last
  tries_none : (i : ℕ) → i + 0 ≡ length xs → (p : Page) → tries_from i p ≡ Fine (trying (w i) p)
  tries_none i e p = ap (tries reads checker ns (trying (w i) p)) (drop_of_length-le xs {i = i} (omega arith))

  -- record i is tried, then the rest
  module _ (i : ℕ) (l : i < length xs) where
    abbrev rest : Trying → AnswerAt Trying
    rest u = tries reads checker ns u (drop (suc i) xs)

    tries_one : (p : Page) → tries_from i p ≡ and_then (tried reads checker ns (trying (w i) p) (x i)) rest
    tries_one p = ap (tries reads checker ns (trying (w i) p)) (drop-cons xs i _ l)

    tries_more : (q : Page) → rest (trying (step_at reads ns (w i) (x i)) q) ≡ tries_from (suc i) q
    tries_more q = ap (λ (y : Walk). rest (trying y q)) (behind_more reads ns (begin o) xs i l)

  -- where they all pass, they are all right
  from_right : (m i : ℕ) → i + m ≡ length xs → (p : Page) → HoldsAt i p → (v : Trying) → tries_from i p ≡ Fine v
      → RightFrom i × HoldsAt (length xs) v.page
  from_right zero i left p h v e =
      let last : Fine (trying (w i) p) ≡ Fine v = sym (tries_none i left p) ∙ e in
      let is : trying (w i) p ≡ v = cc in
      let all : i ≡ length xs = omega arith in
      (λ j a b. absurd (omega arith), subst (λ (y : Trying). HoldsAt (length xs) y.page) is (rw all at h))
  from_right (suc m) i left p h v e =
      let l : i < length xs = omega arith in
      let (u, t, more) = fine_then (tried reads checker ns (trying (w i) p) (x i)) (rest i l) v (sym (tries_one i l p) ∙ e) in
      let (r, (q, is, holds)) = passed_right i p h u t in
      let (later, end) = from_right m (suc i) (omega arith) q holds v (sym (tries_more i l q) ∙ ap (rest i l) is ∙ more) in
      (λ j a b. elim (dec_lt i j) [ yes k ↦ later j k b | no k ↦ let same : i ≡ j = omega arith in rw same at r ], end)

  -- where they are all right, they all pass
  right_from : (m i : ℕ) → i + m ≡ length xs → (p : Page) → HoldsAt i p → RightFrom i → (v : Trying) × (tries_from i p ≡ Fine v)
  right_from zero i left p h r = (trying (w i) p, tries_none i left p)
  right_from (suc m) i left p h r =
      let l : i < length xs = omega arith in
      let (u, t) = right_passes i p h (r i (omega arith) l) in
      let (_, (q, is, holds)) = passed_right i p h u t in
      let (v, later) = right_from m (suc i) (omega arith) q holds (λ j a b. r j (omega arith) b) in (
        v,
        tries_one i l p
            ∙ ap (λ (a : AnswerAt Trying). and_then a (rest i l)) t
            ∙ ap (rest i l) (sym is)
            ∙ tries_more i l q
            ∙ later,
      )

  -- ---- all of them, from the blank page

  module _ (low : o.initial ≤ size) where
    abbrev all : AnswerAt Trying
    all = tries reads checker ns (start o) xs

    -- tries that are fine: every record is right, and the page holds what they write
    pub fine_right : (v : Trying) → all ≡ Fine v → ((i : ℕ) → i < length xs → Right reads xs o N i) × HoldsAt (length xs) v.page
    fine_right v e =
        let (r, h) = from_right (length xs) 0 (omega arith) (blank o) (holds_blank (write_at reads xs o N) o low) v e in
        (λ i l. r i (omega arith) l, h)

    -- every record is right: the tries are fine
    pub right_fine : ((i : ℕ) → i < length xs → Right reads xs o N i) → (v : Trying) × (all ≡ Fine v)
    right_fine r = right_from (length xs) 0 (omega arith) (blank o) (holds_blank (write_at reads xs o N) o low) (λ i a l. r i l)
