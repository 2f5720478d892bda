-- A listing goes through the names, the passes and the tries of the build, and puts its lines before what the build comes to.
-- Assumes nothing.
use mathlib.Core.List.{List, ◌++◌}
use mathlib.Core.Path.{◌≡◌, ap}
use Prim.Native.Nat.{ℕ}
use Rattle.refusals.specs.AnswerAt.{AnswerAt, Fine, Fault, mapped, and_then}
use Rattle.refusals.proofs.Never.{never}
use Rattle.refusals.proofs.Answers.{fine_value, fault_is}
use Rattle.symbols.specs.declared.SymbolTable.{SymbolTable}
use Rattle.form.specs.Statements.{statements}
use Rattle.names.specs.Names.{names_of}
use Rattle.walk.specs.Walk.{Origin, begin}
use Rattle.walk.specs.Values.{Values, numbered}
use Rattle.passes.specs.Passes.{settled}
use Rattle.reads.specs.Reads.{reads_on}
use Rattle.builds.specs.Build.{Build, tried_with, built_by, built}
use Rattle.lines.specs.Text.{last_line}
use Rattle.record_lines.specs.Records.{lines}
use Rattle.listing.specs.Listing.{listed_with, listed_by, listed}
use Rattle.listing.specs.Theorems.{AsBuilt}

-- l: the listing, where b is the build
record Follows (l : AnswerAt (List ℕ)) (b : AnswerAt Build) : Type 0 where
  refused : (n at : ℕ) → b ≡ Fault n at → l ≡ Fault n at
  finished : (x : Build) → b ≡ Fine x → (ls : List ℕ) × (l ≡ Fine (ls ++ last_line x.start x.end x.passes))

-- a refusal of what both go through
both_refused : (m i : ℕ) → Follows (Fault m i) (Fault m i)
both_refused m i = record { refused = λ n at e. fault_is e; finished = λ x e. never (cc) }

-- some lines, before the end that the build has
shown : (ls : List ℕ) (b : AnswerAt Build) → Follows (mapped (λ x. ls ++ last_line x.start x.end x.passes) b) b
shown ls (Fine b) = record {
  refused = λ n at e. never (cc);
  finished = λ x e. (ls, ap (λ (y : Build). Fine (ls ++ last_line y.start y.end y.passes)) (fine_value e));
}
shown ls (Fault m i) = both_refused m i

module _ (tape : List ℕ) (o : Origin) where
  settles : (t : SymbolTable) (a : AnswerAt (ℕ × Values))
      → Follows (and_then a (listed_with (reads_on tape t) (statements tape) o)) (and_then a (tried_with (reads_on tape t) (statements tape) o))
  settles t (Fine (n, L)) =
      shown (lines (reads_on tape t) (numbered L) (begin o) (statements tape)) (tried_with (reads_on tape t) (statements tape) o (n, L))
  settles t (Fault m i) = both_refused m i

  named : (a : AnswerAt SymbolTable)
      → Follows (and_then a (λ t. listed_by (reads_on tape t) (statements tape) o))
      (and_then a (λ t. built_by (reads_on tape t) (statements tape) o))
  unfolding listed_by built_by
  named (Fine t) = settles t (settled (reads_on tape t) (statements tape) o)
  named (Fault m i) = both_refused m i

  pub as_built : AsBuilt tape o
  unfolding listed built
  as_built = let f = named (names_of tape) in record { refused = f.refused; finished = f.finished }
