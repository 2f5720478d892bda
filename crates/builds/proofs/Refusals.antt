-- A build whose arguments are in their ranges is refused with one of the numbers listed for it; so a 1 is for arguments alone.
-- Assumes nothing.
use Rattle.std.specs.Prelude.{Option, None, Some}
use mathlib.Core.Bool.{true, false}
use mathlib.Core.List.{List}
use mathlib.Core.Path.{◌≡◌, refl, subst}
use Prim.Native.Nat.{ℕ, ◌≤◌}
use lib.IntN.{ℤ}
use lib.ListN.{length}
use Rattle.refusals.specs.AnswerAt.{AnswerAt, Fine, Fault, mapped}
use Rattle.refusals.specs.Table.{argument}
use Rattle.refusals.proofs.Never.{never}
use Rattle.pen.specs.Pens.{size}
use Rattle.symbols.specs.declared.SymbolTable.{SymbolTable}
use Rattle.edges.specs.Edges.{has}
use Rattle.form.specs.Form.{max_tape}
use Rattle.form.specs.Statements.{statements}
use Rattle.form.proofs.Numbers.{FaultBy, then_by, number_by}
use Rattle.evaluator.specs.Expression.{Value}
use Rattle.names.specs.Names.{names_of}
use Rattle.names.proofs.Kept.{names_sound}
use Rattle.names.proofs.Numbers.{names_number}
use Rattle.walk.specs.Walk.{Origin, origin}
use Rattle.walk.specs.Values.{Values, numbered}
use Rattle.passes.specs.Passes.{limit, least_from, repeats, settled_by, settled}
use Rattle.tries.specs.Tries.{start, tries}
use Rattle.compares.specs.Compared.{plain, builder}
use Rattle.tries.proofs.Numbers.{tries_number}
use Rattle.reads.specs.Reads.{reads_on}
use Rattle.reads.proofs.Numbers.{computes}
use Rattle.builds.specs.Build.{finished, tried_with, built_by, built}
use Rattle.builds.specs.Refusals.{refusals}
use Rattle.builds.proofs.Agrees.{settled_either}

-- a number that stands in the list
abbrev Among : ℕ → Type 0
Among n = has n refusals ≡ true

mapped_by : {A B : Type 0} (f : A → B) (a : AnswerAt A) → FaultBy Among a → FaultBy Among (mapped f a)
mapped_by f (Fine a) h = tt
mapped_by f (Fault n at) h = h

module _ (tape : List ℕ) (o : Origin) (few : length tape ≤ max_tape) (low : o.initial ≤ size) where
  -- ---- passes and tries, of a tape whose names make the table t

  module _ {t : SymbolTable} (fine : names_of tape ≡ Fine t) where
    abbrev reads : (ℕ → Option ℤ) → ℤ → ℕ → Value
    reads = reads_on tape t

    settled_number : FaultBy Among (settled reads (statements tape) o)
    unfolding settled has
    settled_number = go (least_from (repeats reads (statements tape) o) limit 1)
      where
        go : (n : Option ℕ) → FaultBy Among (settled_by reads (statements tape) o n)
        go None = refl
        go (Some n) = tt

    tried_number : (n : ℕ) (L : Values) → settled reads (statements tape) o ≡ Fine (n, L)
        → FaultBy Among (tried_with reads (statements tape) o (n, L))
    unfolding has
    tried_number n L e =
        mapped_by (finished reads (statements tape) o n L) (tries reads builder (numbered L) (start o) (statements tape))
        (subst (FaultBy Among) (settled_either reads (statements tape) o e plain builder)
        (tries_number Among refl refl refl refl refl plain tt tt reads (numbered L) tape
        (computes tape t (numbered L)) (names_sound tape fine).0 o low))

    built_by_number : FaultBy Among (built_by reads (statements tape) o)
    unfolding built_by
    built_by_number =
        then_by Among (tried_with reads (statements tape) o) (settled reads (statements tape) o) settled_number
        (λ x e. tried_number x.0 x.1 e)

  -- ---- form and names before them

  built_number : FaultBy Among (built tape o)
  unfolding built has
  built_number =
      then_by Among (λ t. built_by (reads_on tape t) (statements tape) o) (names_of tape)
      (names_number Among refl refl refl refl refl refl refl tape few) (λ t fine. built_by_number fine)

-- ---- the build

module _ (tape : List ℕ) (initial : ℕ) (few : length tape ≤ max_tape) (low : initial ≤ size) {n at : ℕ} where
  pub refused_with : built tape (origin initial) ≡ Fault n at → has n refusals ≡ true
  refused_with e = number_by Among (built_number tape (origin initial) few low) e

  -- none is the number for arguments
  pub not_argument : built tape (origin initial) ≡ Fault n at → n ≡ argument → ⊥
  unfolding has
  not_argument e is = let no : false ≡ true = subst Among is (refused_with e) in never (cc)
