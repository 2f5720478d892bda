-- A build by what is noted is the build by what query finds, and one whose passes do not settle is refused with them. Assumes nothing.
use Rattle.std.specs.Prelude.{Option}
use mathlib.Core.List.{List}
use mathlib.Core.Path.{◌≡◌, refl, ap, ◌∙◌}
use Prim.Native.Nat.{ℕ}
use lib.IntN.{ℤ}
use Rattle.refusals.specs.AnswerAt.{AnswerAt, Fine, Fault, mapped, and_then}
use Rattle.form.specs.Statements.{Statement}
use Rattle.evaluator.specs.Expression.{Value}
use Rattle.walk.specs.Walk.{Origin}
use Rattle.walk.specs.Values.{Values, numbered}
use Rattle.walk.proofs.Agrees.{Alike}
use Rattle.passes.specs.Passes.{settled}
use Rattle.passes.proofs.Agrees.{settled_alike}
use Rattle.tries.specs.Tries.{start}
use Rattle.tries.proofs.Agrees.{tries_alike}
use Rattle.compares.specs.Compared.{builder}
use Rattle.builds.specs.Build.{finished, tried_with, built_by}

-- ---- two readings that agree at every statement

abbrev Reads : Type 0
Reads = (ℕ → Option ℤ) → ℤ → ℕ → Value

pub built_alike : (r s : Reads) (xs : List Statement) (o : Origin) → Alike r s xs → built_by r xs o ≡ built_by s xs o
unfolding built_by
built_alike r s xs o h =
    ap (λ (a : AnswerAt (ℕ × Values)). and_then a (tried_with r xs o)) (settled_alike r s xs o h) ∙ go (settled s xs o)
  where
    go : (a : AnswerAt (ℕ × Values)) → and_then a (tried_with r xs o) ≡ and_then a (tried_with s xs o)
    go (Fine (n, L)) = ap (mapped (finished s xs o n L)) (tries_alike r s builder (numbered L) (start o) xs h)
    go (Fault n at) = refl

-- ---- passes that do not settle

pub built_refused : (r : Reads) (xs : List Statement) (o : Origin) {m at : ℕ} → settled r xs o ≡ Fault m at → built_by r xs o ≡ Fault m at
unfolding built_by
built_refused r xs o e = ap (λ (a : AnswerAt (ℕ × Values)). and_then a (tried_with r xs o)) e
