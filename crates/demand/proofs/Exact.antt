-- The checker accepts exactly what demand 3 asks, arguments, form and names included. Assumes nothing.
use Rattle.std.specs.Prelude.{Option}
use mathlib.Core.Bool.{true, ◌&&◌, and-eq-true_iff}
use mathlib.Core.List.{List}
use mathlib.Core.Path.{◌≡◌, refl}
use Prim.Native.Nat.{ℕ, ◌≤◌}
use lib.Dec.{eqb}
use lib.IntN.{ℤ}
use lib.ListN.{length}
use borrow.Author.Tests.{eqb-true, eq-eqb, le-leb}
use Rattle.refusals.specs.AnswerAt.{Fine}
use Rattle.refusals.proofs.Answers.{fine_passed, fine_then}
use Rattle.pen.specs.Pens.{size}
use Rattle.form.specs.Form.{max_tape}
use Rattle.form.specs.Statements.{Statement, statements}
use Rattle.evaluator.specs.Expression.{Value}
use Rattle.names.specs.Names.{names_of}
use Rattle.walk.specs.Walk.{Origin, origin}
use Rattle.walk.specs.Values.{same}
use Rattle.walk.proofs.Equal.{same_true, same_same}
use Rattle.tries.specs.Tries.{Trying, start, tries}
use Rattle.reads.specs.Reads.{reads_on}
use Rattle.number_list.specs.Lists.{count}
use Rattle.compares.specs.Compared.{checker}
use Rattle.verdict.specs.Verdict.{covered, is_written, judged}
use Rattle.checker.specs.Check.{checked_by, checked}
use Rattle.checker.specs.Call.{is_allowed, check_of}
use Rattle.checker.proofs.Checks.{Allowed, allowed}
use Rattle.demand.specs.Demand.{numbers, write_at, Fits, Demand}
use Rattle.demand.specs.Theorems.{Exact}
use Rattle.demand.proofs.Pages.{held_asked, asked_held}
use Rattle.demand.proofs.Right.{fine_right, right_fine}

-- ---- start and bytes

module _ (start : ℕ) (bytes : List ℕ) (t : Trying) where
  -- they are accepted where they are those of the page
  judged_has : judged start bytes t ≡ Fine tt
      → (start ≡ t.page.pen.start) × (bytes ≡ covered t.page.pen.start t.page.pen.end t.page.image)
  unfolding judged is_written
  judged_has e =
      let all = covered t.page.pen.start t.page.pen.end t.page.image in
      let (passed, _) = fine_passed (eqb start t.page.pen.start && same eqb bytes all) (Fine tt) _ _ e in
      let (s, b) = (and-eq-true_iff (eqb start t.page.pen.start) (same eqb bytes all)).0 passed in
      (eqb-true start t.page.pen.start s, same_true eqb eqb-true bytes all b)

  pub judged_is : start ≡ t.page.pen.start → bytes ≡ covered t.page.pen.start t.page.pen.end t.page.image
      → judged start bytes t ≡ Fine tt
  unfolding judged is_written
  judged_is s b = rw (eq-eqb start t.page.pen.start s, b, same_same eqb (λ k. eq-eqb k k refl))

-- ---- the statements

module _ (reads : (ℕ → Option ℤ) → ℤ → ℕ → Value) (xs : List Statement) (o : Origin) (low : o.initial ≤ size) (N : List ℤ)
    (begins : ℕ) (bytes : List ℕ) where
  -- what is accepted fits
  checked_fits : checked_by reads xs o N begins bytes ≡ Fine tt → Fits reads xs o N begins bytes
  unfolding checked_by
  checked_fits e =
      let (many, tried) = fine_passed (eqb (length N) (count xs)) _ _ _ e in
      let (t, is, judges) = fine_then (tries reads checker (numbers reads xs o N) (start o) xs) (judged begins bytes) tt tried in
      let (right, holds) = fine_right reads xs o N low t is in
      let (s, b) = judged_has begins bytes t judges in
      let (range, written) = held_asked (write_at reads xs o N) o (length xs) t.page holds begins bytes s b in
      record { many = eqb-true (length N) (count xs) many; records = right; range = range; written = written }

  -- what fits is accepted
  fits_checked : Fits reads xs o N begins bytes → checked_by reads xs o N begins bytes ≡ Fine tt
  unfolding checked_by
  fits_checked h =
      let (t, is) = right_fine reads xs o N low h.records in
      let (_, holds) = fine_right reads xs o N low t is in
      let (s, b) = asked_held (write_at reads xs o N) o (length xs) t.page holds begins bytes (h.range, h.written) in
      rw (eq-eqb (length N) (count xs) h.many, is, judged_is begins bytes t s b)

-- ---- the call

-- arguments in their ranges
pub allowed_is : (t i s b : ℕ) → Allowed t i s b → is_allowed t i s b ≡ true
unfolding is_allowed
allowed_is t i s b a =
    rw (le-leb t max_tape a.tape, le-leb i size a.initial, le-leb s size a.start, le-leb b size a.bytes)

module _ (tape : List ℕ) (initial : ℕ) (N : List ℤ) (begins : ℕ) (bytes : List ℕ) where
  -- what is accepted is what is asked for
  accepted_asked : check_of tape initial N begins bytes ≡ Fine tt → Demand tape initial N begins bytes
  unfolding check_of checked
  accepted_asked e =
      let (ranges, named) = fine_passed (is_allowed (length tape) initial begins (length bytes)) _ _ _ e in
      let a = allowed (length tape) initial begins (length bytes) ranges in
      let (table, is, fits) = fine_then (names_of tape) _ tt named in
      record {
        tape_short = a.tape;
        initial_low = a.initial;
        start_low = a.start;
        bytes_short = a.bytes;
        table = table;
        names = is;
        fits = checked_fits (reads_on tape table) (statements tape) (origin initial) a.initial N begins bytes fits;
      }

  -- and all of that is accepted
  asked_accepted : Demand tape initial N begins bytes → check_of tape initial N begins bytes ≡ Fine tt
  unfolding check_of checked
  asked_accepted d =
      let a : Allowed (length tape) initial begins (length bytes) = record {
        tape = d.tape_short;
        initial = d.initial_low;
        start = d.start_low;
        bytes = d.bytes_short;
      } in
      rw (
        allowed_is (length tape) initial begins (length bytes) a,
        d.names,
        fits_checked (reads_on tape d.table) (statements tape) (origin initial) d.initial_low N begins bytes d.fits,
      )

pub exact : Exact
exact tape initial N begins bytes = (accepted_asked tape initial N begins bytes, asked_accepted tape initial N begins bytes)
