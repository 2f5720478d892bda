-- What the names of a tape answer, and that the build behind them is the build by their notes. Assumes nothing.
use mathlib.Core.List.{List}
use mathlib.Core.Path.{◌≡◌, sym, ap, ◌∙◌}
use Prim.Native.Nat.{ℕ}
use lib.ListN.{length}
use Rattle.refusals.specs.AnswerAt.{AnswerAt, Fine, Fault, and_then}
use Rattle.symbols.specs.declared.SymbolTable.{SymbolTable}
use Rattle.form.specs.Form.{max_tape}
use Rattle.form.specs.Statements.{statements}
use Rattle.names.specs.Names.{names_of, declare_of, notes_after}
use Rattle.names.proofs.Kept.{notes_are}
use Rattle.walk.specs.Walk.{Origin}
use Rattle.walk.specs.Numbers.{reads_noted}
use Rattle.reads.specs.Reads.{reads_on}
use Rattle.reads.proofs.Names.{declare_is}
use Rattle.reads.proofs.Reading.{all_alike}
use Rattle.builds.specs.Build.{built_by, built}
use Rattle.builds.proofs.Builds.{built_alike}

module _ (tape : List ℕ) (o : Origin) where
  pub built_fault : {m at : ℕ} → names_of tape ≡ Fault m at → built tape o ≡ Fault m at
  unfolding built
  built_fault e = ap (λ (a : AnswerAt SymbolTable). and_then a (λ t. built_by (reads_on tape t) (statements tape) o)) e

  -- by what is noted at the name records
  pub built_noted : {t : SymbolTable} → names_of tape ≡ Fine t → (nodes : List ℕ) → length nodes ≡ max_tape → {nodes' : List ℕ}
      → nodes' ≡ notes_after tape nodes (declare_of tape (length nodes))
      → built_by (reads_noted tape nodes') (statements tape) o ≡ built tape o
  unfolding built
  built_noted {t} fine nodes long {nodes'} is =
      let resolved = notes_are tape (length nodes) (declare_is tape long ∙ fine) nodes long in
      ap (λ (l : List ℕ). built_by (reads_noted tape l) (statements tape) o) is
      ∙ built_alike _ (reads_on tape t) (statements tape) o (all_alike tape fine _ resolved)
      ∙ sym (ap (λ (a : AnswerAt SymbolTable). and_then a (λ t. built_by (reads_on tape t) (statements tape) o)) fine)
