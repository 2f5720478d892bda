-- What is put behind the tries: the refused line, or the lines and the last one. Assumes nothing.
use Rattle.std.specs.Prelude.{Option}
use mathlib.Core.Bool.{Bool, true, false, ◌&&◌}
use mathlib.Core.List.{List, ◌++◌}
use mathlib.Core.Path.{◌≡◌, refl, sym, ap, ◌∙◌}
use Prim.Native.Nat.{ℕ, ◌≤◌}
use lib.Dec.{eqb, leb}
use lib.IntN.{ℤ}
use lib.ListN.{length}
use borrow.Author.Tests.{leb-true}
use Rattle.refusals.specs.Answer.{pick}
use Rattle.refusals.specs.AnswerAt.{AnswerAt, Fine, Fault, mapped}
use Rattle.refusals.specs.Table.{argument}
use Rattle.refusals.proofs.Never.{never}
use Rattle.refusals.proofs.Answers.{fine_value, fault_is}
use Rattle.page.specs.Page.{laid}
use Rattle.page.proofs.Laying.{laid_then, laid_same}
use Rattle.lines.specs.Text.{last_line, refused_line}
use Rattle.pen.specs.Pens.{size}
use Rattle.form.specs.Form.{max_tape}
use Rattle.form.specs.Statements.{statements}
use Rattle.evaluator.specs.Expression.{Value}
use Rattle.walk.specs.Walk.{origin, begin}
use Rattle.walk.specs.Numbers.{numbers_in, reads_noted}
use Rattle.tries.specs.Tries.{Trying}
use Rattle.tries.specs.Write.{is_allowed, tried_all, write_of, range_of}
use Rattle.compares.specs.Compared.{builder}
use Rattle.record_lines.specs.Records.{lines, said, recorded}
use Rattle.record_lines.specs.Steps.{AllPass}

-- ---- what they answer

range_refused : {m at : ℕ} (a : AnswerAt Trying) → Fault m at ≡ mapped range_of a → a ≡ Fault m at
range_refused (Fine t) e = never (cc)
range_refused (Fault n i) e = sym (fault_is e)

range_fine : {from to : ℕ} (a : AnswerAt Trying) → Fine (from, to) ≡ mapped range_of a
    → (u : Trying) × (a ≡ Fine u) × ((from, to) ≡ range_of u)
range_fine (Fine t) e = (t, refl, fine_value e)
range_fine (Fault n i) e = never (cc)

-- ---- what is put then

module _ (tape nodes : List ℕ) (numbers : List (Option ℤ)) (initial : ℕ) where
  abbrev reads : (ℕ → Option ℤ) → ℤ → ℕ → Value
  reads = reads_noted tape nodes

  abbrev known : ℕ → Option ℤ
  known = numbers_in numbers

  abbrev all : AnswerAt Trying
  all = write_of tape nodes numbers initial builder size

  abbrev shown : List ℕ
  shown = lines reads known (begin (origin initial)) (statements tape)

  abbrev text : ℕ → Trying → List ℕ
  text n t = shown ++ last_line t.page.pen.start t.page.pen.end n

  abbrev Passed : Type 0
  Passed = (length tape ≤ max_tape) × (initial ≤ size) × AllPass reads known (statements tape) (origin initial)

  -- where they come through, tape and place were allowed
  passed : (u : Trying) → all ≡ Fine u → Passed
  unfolding write_of is_allowed tried_all
  passed u fine = go (leb (length tape) max_tape) (leb initial size) (eqb size size) refl refl fine
    where
      go : (a b d : Bool) → leb (length tape) max_tape ≡ a → leb initial size ≡ b
          → pick (a && b && d) (tried_all tape nodes numbers initial builder) (Fault argument 0) ≡ Fine u → Passed
      go true true true short low e = (leb-true (length tape) max_tape short, leb-true initial size low, (u, e))
      go true true false short low e = never (cc)
      go true false d short low e = never (cc)
      go false b d short low e = never (cc)

  pub all_pass : {from to : ℕ} → Fine (from, to) ≡ mapped range_of all → Passed
  all_pass told = let found = range_fine all told in passed found.0 found.1

  -- m: the text before; n: how many passes there were
  module _ (n : ℕ) (m : List ℕ) where
    abbrev Filled : ℕ × List ℕ → Type 0
    Filled z = z ≡ laid m 0 (said (recorded tape nodes numbers n initial))

    pub filled_refused : {i at : ℕ} → Fault i at ≡ mapped range_of all → {z : ℕ × List ℕ} → z ≡ laid m 0 (refused_line i at) → Filled z
    unfolding recorded
    filled_refused told put =
        laid_same m 0 _ (sym (ap (λ (a : AnswerAt Trying). said (mapped (text n) a)) (range_refused all told))) put

    -- first the lines, then the last one
    pub filled_lines : {from to : ℕ} → Fine (from, to) ≡ mapped range_of all → {text' : List ℕ} {end : ℕ}
        → (end, text') ≡ laid m 0 shown → {z : ℕ × List ℕ} → z ≡ laid text' end (last_line from to n) → Filled z
    unfolding recorded
    filled_lines {from} {to} told put last =
        let (u, fine, both) = range_fine all told in
        laid_same m 0 _
        (ap (λ (p : ℕ × ℕ). shown ++ last_line p.0 p.1 n) both ∙ sym (ap (λ (a : AnswerAt Trying). said (mapped (text n) a)) fine))
        (laid_then m 0 shown put (last_line from to n) last)
