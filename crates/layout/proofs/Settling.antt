-- What settling answers: a refusal, or settled values and the numbers that stand for them. Assumes nothing.
use Rattle.std.specs.Prelude.{Option}
use mathlib.Core.List.{List}
use mathlib.Core.Path.{◌≡◌, refl, sym, ap, ◌∙◌}
use Prim.Native.Nat.{ℕ, ◌≤◌, ◌<◌}
use lib.IntN.{ℤ}
use lib.ListN.{length}
use borrow.Author.Tests.{lt-ltb}
use Rattle.refusals.specs.AnswerAt.{AnswerAt, Fine, Fault, mapped}
use Rattle.refusals.proofs.Never.{never}
use Rattle.refusals.proofs.Answers.{fine_value, fault_is}
use Rattle.pen.specs.Pens.{size}
use Rattle.form.specs.Form.{max_tape}
use Rattle.form.specs.Statements.{statements}
use Rattle.walk.specs.Walk.{origin}
use Rattle.walk.specs.Values.{Values, declarations}
use Rattle.walk.specs.Numbers.{numbers_by, reads_noted}
use Rattle.passes.specs.Passes.{settled}
use Rattle.passes.specs.Settle.{settle_of, handed}
use Rattle.passes.proofs.Counting.{allowed_by}

pub settled_refused : {m at : ℕ} (a : AnswerAt (ℕ × Values)) → Fault m at ≡ mapped handed a → a ≡ Fault m at
settled_refused (Fine (n, L)) e = never (cc)
settled_refused (Fault n i) e = sym (fault_is e)

pub settled_after : {n : ℕ} {numbers : List (Option ℤ)} (a : AnswerAt (ℕ × Values)) → Fine (n, numbers) ≡ mapped handed a
    → (L : Values) × (a ≡ Fine (n, L)) × (numbers ≡ numbers_by L)
settled_after (Fine (n, L)) e =
    let same = fine_value e in
    (L, ap (λ (k : ℕ). Fine (k, L)) (sym (ap (λ (x : ℕ × List (Option ℤ)). x.0) same)), ap (λ (x : ℕ × List (Option ℤ)). x.1) same)
settled_after (Fault n i) e = never (cc)

pub settle_allowed : (tape nodes : List ℕ) (initial : ℕ) → length tape ≤ max_tape → initial ≤ size → declarations (statements tape) < 1024
    → settle_of tape nodes initial ≡ settled (reads_noted tape nodes) (statements tape) (origin initial)
unfolding settle_of
settle_allowed tape nodes initial a b few =
    rw (sym (allowed_by tape initial a b refl) ∙ lt-ltb (declarations (statements tape)) 1024 few)
