-- What the test of the arguments tells; and that a 1 is for arguments alone. Assumes nothing.
use mathlib.Core.Bool.{Bool, true, false, ◌&&◌, and-eq-true_iff}
use mathlib.Core.List.{List}
use mathlib.Core.Path.{◌≡◌, refl}
use Prim.Native.Nat.{ℕ, ◌≤◌}
use lib.Dec.{eqb, leb}
use lib.ListN.{length}
use borrow.Author.Tests.{eqb-true, leb-true}
use Rattle.refusals.specs.Answer.{pick}
use Rattle.refusals.specs.AnswerAt.{AnswerAt, Fine, Fault}
use Rattle.refusals.specs.Table.{argument}
use Rattle.refusals.proofs.Never.{never}
use Rattle.pen.specs.Pens.{size}
use Rattle.edges.specs.Edges.{max_nodes}
use Rattle.form.specs.Form.{max_tape}
use Rattle.walk.specs.Walk.{origin}
use Rattle.builds.specs.Build.{Build, built}
use Rattle.builds.proofs.Refusals.{not_argument}
use Rattle.builder.specs.Call.{Memory, is_allowed, work_places, left, build_of}

-- ---- arguments in their ranges

pub record Allowed (t i m l w : ℕ) : Type 0 where
  pub tape : t ≤ max_tape
  pub initial : i ≤ size
  pub image : m ≡ size
  pub list : l ≡ max_nodes
  pub work : w ≡ work_places

pub allowed : (t i m l w : ℕ) → is_allowed t i m l w ≡ true → Allowed t i m l w
unfolding is_allowed
allowed t i m l w e =
    let a = (and-eq-true_iff (leb t max_tape && leb i size && eqb m size && eqb l max_nodes) (eqb w work_places)).0 e in
    let b = (and-eq-true_iff (leb t max_tape && leb i size && eqb m size) (eqb l max_nodes)).0 a.0 in
    let c = (and-eq-true_iff (leb t max_tape && leb i size) (eqb m size)).0 b.0 in
    let d = (and-eq-true_iff (leb t max_tape) (leb i size)).0 c.0 in
    record {
      tape = leb-true t max_tape d.0;
      initial = leb-true i size d.1;
      image = eqb-true m size c.1;
      list = eqb-true l max_nodes b.1;
      work = eqb-true w work_places a.1;
    }

-- ---- the call: it answers a 1 only where an argument is outside its range

module _ (tape : List ℕ) (initial : ℕ) (m : Memory) where
  abbrev ranges : Bool
  ranges = is_allowed (length tape) initial (length m.image) (length m.list) (length m.work)

  pub argument_only : {at : ℕ} → (build_of tape initial m).0 ≡ Fault argument at → ranges ≡ false
  unfolding build_of
  argument_only {at} e = go ranges refl e
    where
      not_left : length tape ≤ max_tape → initial ≤ size → (b : AnswerAt Build) → built tape (origin initial) ≡ b
          → (left m b).0 ≡ Fault argument at → ⊥
      not_left few low (Fine b) is e = never (cc)
      not_left few low (Fault n i) is e = not_argument tape initial few low is cc

      go : (t : Bool) → ranges ≡ t → (pick t (left m (built tape (origin initial))) (Fault argument 0, m)).0 ≡ Fault argument at
          → ranges ≡ false
      go true in_range_lem e =
          let a = allowed _ _ _ _ _ in_range_lem in
          absurd (not_left a.tape a.initial (built tape (origin initial)) refl e)
      go false in_range_lem e = in_range_lem
