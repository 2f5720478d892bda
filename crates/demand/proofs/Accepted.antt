-- Every build that finishes is accepted by the checker, and the count that it reports is the least. Assumes nothing.
use Rattle.std.specs.Prelude.{Option}
use mathlib.Core.Bool.{Bool, true, false}
use mathlib.Core.List.{List, map}
use mathlib.Core.Path.{◌≡◌, refl, sym, ap, ◌∙◌, subst}
use Prim.Native.Nat.{ℕ, ◌-◌, ◌≤◌}
use native.Mathlib.Omega.{arith}
use lib.IntN.{ℤ, pos}
use lib.ListN.{length, take, drop, replicate, length-take, length-drop}
use lib.Seq.{take-append_seam}
use borrow.Author.Tests.{eq-eqb}
use Rattle.refusals.specs.Answer.{pick}
use Rattle.refusals.specs.AnswerAt.{AnswerAt, Fine, Fault}
use Rattle.refusals.specs.Table.{argument}
use Rattle.refusals.proofs.Never.{never}
use Rattle.refusals.proofs.Answers.{fine_value}
use Rattle.pen.specs.Pens.{size}
use Rattle.symbols.specs.declared.SymbolTable.{SymbolTable}
use Rattle.edges.specs.Edges.{max_nodes}
use Rattle.symbols.specs.Symbols.{number_or0}
use Rattle.form.specs.Form.{max_tape}
use Rattle.form.specs.Statements.{Statement, statements}
use Rattle.evaluator.specs.Expression.{Value}
use Rattle.names.specs.Names.{names_of}
use Rattle.walk.specs.Walk.{Origin, origin, begin}
use Rattle.walk.specs.Values.{Values, numbered}
use Rattle.walk.specs.Numbers.{filled}
use Rattle.passes.specs.Passes.{pass}
use Rattle.passes.specs.Least.{Least}
use Rattle.tries.specs.Tries as T
use Rattle.tries.specs.Tries.{Trying, tries}
use Rattle.tries.proofs.Sound.{tries_sound}
use Rattle.reads.specs.Reads.{reads_on}
use Rattle.number_list.specs.Lists.{number_list}
use Rattle.compares.specs.Compared.{builder, checker}
use Rattle.builds.specs.Build.{Build, built}
use Rattle.builder.specs.Call as call
use Rattle.builder.specs.Call.{Memory, report, left, build_of}
use Rattle.builder.proofs.Arguments.{allowed}
use Rattle.builds.proofs.Kept.{finished_build}
use Rattle.builds.proofs.Agrees.{tries_either}
use Rattle.verdict.specs.Verdict.{covered}
use Rattle.checker.specs.Check.{checked_by, checked}
use Rattle.checker.specs.Call.{check_of}
use Rattle.checker.proofs.Checks.{Allowed}
use Rattle.demand.specs.Theorems.{Accepted, Counted}
use Rattle.demand.proofs.Exact.{judged_is, allowed_is}
use Rattle.demand.proofs.Spreads.{list_length, spread_back}

-- ---- a call that finished

-- a fault is not fine
no_fault : {A B : Type 0} {n at : ℕ} {a : A} → Fault n at ≡ Fine a → B
no_fault e = never (cc)

-- its build, the ranges of its arguments, what it answered and left
record Call (tape : List ℕ) (initial start end count passes : ℕ) (after : Memory) : Type 0 where
  build : Build
  is : built tape (origin initial) ≡ Fine build
  tape_short : length tape ≤ max_tape
  initial_low : initial ≤ size
  start_is : start ≡ build.start
  end_is : end ≡ build.end
  passes_is : passes ≡ build.passes
  numbers : take count after.list ≡ build.numbers
  image : after.image ≡ build.image

module _ (tape : List ℕ) (initial : ℕ) (before after : Memory) (start end count passes : ℕ) where
  abbrev ranges : Bool
  ranges = call.is_allowed (length tape) initial (length before.image) (length before.list) (length before.work)

  finished_call : build_of tape initial before ≡ (Fine (start, end, count, passes), after) → Call tape initial start end count passes after
  unfolding build_of
  finished_call e = go ranges refl e
    where
      done : length tape ≤ max_tape → initial ≤ size → (a : AnswerAt Build) → built tape (origin initial) ≡ a
          → left before a ≡ (Fine (start, end, count, passes), after) → Call tape initial start end count passes after
      done short low (Fine b) is e =
          let r : report b ≡ (start, end, count, passes) = fine_value (ap (λ p. p.0) e) in
          let list : filled max_nodes (pos 0) b.numbers ≡ after.list = ap (λ p. p.1.list) e in
          record {
            build = b;
            is = is;
            tape_short = short;
            initial_low = low;
            start_is = sym (ap (λ p. p.0) r);
            end_is = sym (ap (λ p. p.1) r);
            passes_is = sym (ap (λ p. p.3) r);
            numbers =
                ap (λ (n : ℕ). take n after.list) (sym (ap (λ p. p.2) r))
                ∙ ap (take (length b.numbers)) (sym list)
                ∙ take-append_seam b.numbers (replicate (max_nodes - length b.numbers) (pos 0));
            image = sym (ap (λ p. p.1.image) e);
          }
      done short low (Fault n at) is e = no_fault (ap (λ p. p.0) e)

      go : (t : Bool) → ranges ≡ t
          → pick t (left before (built tape (origin initial))) (Fault argument 0, before) ≡ (Fine (start, end, count, passes), after)
          → Call tape initial start end count passes after
      go true in_range_lem e = let a = allowed _ _ _ _ _ in_range_lem in done a.tape a.initial _ refl e
      go false in_range_lem e = no_fault (ap (λ p. p.0) e)

-- ---- the check

-- values that a pass gives back, with no statement refused: the check of their list, and of what they write, is passed
module _ (reads : (ℕ → Option ℤ) → ℤ → ℕ → Value) (xs : List Statement) (o : Origin) (L : Values) (t : Trying) where
  checked_by_lem : pass reads (numbered L) (begin o) xs ≡ L → tries reads builder (numbered L) (T.start o) xs ≡ Fine t
      → checked_by reads xs o (number_list xs (map number_or0 L)) t.page.pen.start
      (covered t.page.pen.start t.page.pen.end t.page.image) ≡ Fine tt
  unfolding checked_by
  checked_by_lem back tried =
      let spread = rw back at (spread_back reads builder (numbered L) (T.start o) xs tried) in
      rw (eq-eqb _ _ (list_length xs (map number_or0 L)), spread, tries_either reads L checker builder (T.start o) xs back, tried)
      (judged_is t.page.pen.start (covered t.page.pen.start t.page.pen.end t.page.image) t refl refl)

-- what is covered of an image is no longer than it
covered_short : (start end : ℕ) (image : List ℕ) → length image ≡ size → length (covered start end image) ≤ size
covered_short start end image e = omega (arith, length-take (end - start) (drop start image), length-drop start image, e)

-- with arguments in their ranges, the names of the tape come first
check_allowed : (tape : List ℕ) (initial : ℕ) (numbers : List ℤ) (start : ℕ) (bytes : List ℕ) {t : SymbolTable}
    → Allowed (length tape) initial start (length bytes) → names_of tape ≡ Fine t
    → check_of tape initial numbers start bytes ≡ checked_by (reads_on tape t) (statements tape) (origin initial) numbers start bytes
unfolding check_of checked
check_allowed tape initial numbers start bytes a names = rw (allowed_is (length tape) initial start (length bytes) a, names)

-- ---- the theorems

-- a finished build, by its own numbers, start and bytes
build_accepted : (tape : List ℕ) (initial : ℕ) {b : Build} → length tape ≤ max_tape → initial ≤ size → built tape (origin initial) ≡ Fine b
    → check_of tape initial b.numbers b.start (covered b.start b.end b.image) ≡ Fine tt
build_accepted tape initial short low e =
    let o = origin initial in
    let f = finished_build tape o e in
    let reads = reads_on tape f.table in
    let pen = f.walked.page.pen in
    let image = f.walked.page.image in
    let inside = tries_sound reads builder (numbered f.values) o (statements tape) low f.tried in
    (λ i. check_of tape initial (f.numbers i) (f.start i) (covered (f.start i) (f.end i) (f.image i)))
    ∙ check_allowed tape initial _ pen.start (covered pen.start pen.end image) (record {
      tape = short;
      initial = low;
      start = omega (arith, inside.forward, inside.end);
      bytes = covered_short pen.start pen.end image inside.image;
    }) f.names
    ∙ checked_by_lem reads (statements tape) o f.values f.walked f.back f.tried

pub accepted : Accepted
accepted tape initial before after start end count passes e =
    let k = finished_call tape initial before after start end count passes e in
    (λ i. check_of tape initial (k.numbers i) (k.start_is i) (covered (k.start_is i) (k.end_is i) (k.image i)))
    ∙ build_accepted tape initial k.tape_short k.initial_low k.is

pub counted : Counted
counted tape initial before after start end count passes e =
    let k = finished_call tape initial before after start end count passes e in
    let f = finished_build tape (origin initial) k.is in
    (f.table, f.names, subst (Least (reads_on tape f.table) (statements tape) (origin initial)) (sym k.passes_is) f.least)
