-- What a finished build has: the names of its tape, the least pass that repeats, numbers that a further pass gives back, and an image
-- that is zero outside its range. And a tape whose passes never repeat is refused with 16 at 0. Assumes nothing.
use mathlib.Core.List.{List, map}
use mathlib.Core.Path.{◌≡◌, refl, ap, ◌∙◌, subst}
use Prim.Native.Nat.{ℕ, ◌-◌, ◌<◌, ◌≤◌}
use lib.ListN.{get_or}
use Rattle.refusals.specs.AnswerAt.{AnswerAt, Fine, Fault, mapped, and_then}
use Rattle.refusals.specs.Table.{not_settled}
use Rattle.refusals.proofs.Never.{never}
use Rattle.refusals.proofs.Answers.{fine_value}
use Rattle.symbols.specs.declared.SymbolTable.{SymbolTable}
use Rattle.symbols.specs.Symbols.{number_or0}
use Rattle.form.specs.Statements.{statements}
use Rattle.names.specs.Names.{names_of}
use Rattle.walk.specs.Walk.{Origin, begin}
use Rattle.walk.specs.Values.{Values, numbered}
use Rattle.passes.specs.Passes.{limit, pass, passes, settled}
use Rattle.passes.specs.Least.{Least}
use Rattle.passes.proofs.Settles as Settles
use Rattle.tries.specs.Tries.{Trying, start, tries}
use Rattle.tries.proofs.Zero.{clean_blank, clean_tries}
use Rattle.reads.specs.Reads.{reads_on}
use Rattle.number_list.specs.Lists.{number_list}
use Rattle.compares.specs.Compared.{builder}
use Rattle.builds.specs.Build.{Build, finished, tried_with, built_by, built}
use Rattle.builds.proofs.Builds.{built_refused}

pub record Built (tape : List ℕ) (o : Origin) (b : Build) : Type 0 where
  -- the table of the tape's names
  pub table : SymbolTable
  pub names : names_of tape ≡ Fine table
  -- the settled values
  pub values : Values
  pub settles : settled (reads_on tape table) (statements tape) o ≡ Fine (b.passes, values)
  -- the pass count is the least
  pub least : Least (reads_on tape table) (statements tape) o b.passes
  -- one more pass gives the values back
  pub back : pass (reads_on tape table) (numbered values) (begin o) (statements tape) ≡ values
  -- the list has them, and the last walk was tried with them
  pub numbers : b.numbers ≡ number_list (statements tape) (map number_or0 values)
  pub walked : Trying
  pub tried : tries (reads_on tape table) builder (numbered values) (start o) (statements tape) ≡ Fine walked
  pub image : b.image ≡ walked.page.image
  pub start : b.start ≡ walked.page.pen.start
  pub end : b.end ≡ walked.page.pen.end

module _ (tape : List ℕ) (o : Origin) where
  pub finished_build : {b : Build} → built tape o ≡ Fine b → Built tape o b
  unfolding built built_by
  finished_build {b} e = named (names_of tape) refl e
    where
      written : (t : SymbolTable) → names_of tape ≡ Fine t → (n : ℕ) (L : Values)
          → settled (reads_on tape t) (statements tape) o ≡ Fine (n, L)
          → (a : AnswerAt Trying) → tries (reads_on tape t) builder (numbered L) (start o) (statements tape) ≡ a
          → mapped (finished (reads_on tape t) (statements tape) o n L) a ≡ Fine b → Built tape o b
      written t is n L settles (Fine w) tried e =
          let same = fine_value e in
          subst (Built tape o) same (record {
            table = t;
            names = is;
            values = L;
            settles = settles;
            least = (Settles.least (reads_on tape t) (statements tape) o settles).0;
            back = Settles.gives_back (reads_on tape t) (statements tape) o settles;
            numbers = refl;
            walked = w;
            tried = tried;
            image = refl;
            start = refl;
            end = refl;
          })
      written t is n L settles (Fault m at) tried e = never (cc)

      passed : (t : SymbolTable) → names_of tape ≡ Fine t → (a : AnswerAt (ℕ × Values)) → settled (reads_on tape t) (statements tape) o ≡ a
          → and_then a (tried_with (reads_on tape t) (statements tape) o) ≡ Fine b → Built tape o b
      passed t is (Fine (n, L)) settles e = written t is n L settles _ refl e
      passed t is (Fault m at) settles e = never (cc)

      named : (a : AnswerAt SymbolTable) → names_of tape ≡ a → and_then a (λ t. built_by (reads_on tape t) (statements tape) o) ≡ Fine b
          → Built tape o b
      named (Fine t) is e = passed t is _ refl e
      named (Fault m at) is e = never (cc)

  -- "an image zero outside the range"
  pub zero_outside : {b : Build} → built tape o ≡ Fine b → (a : ℕ)
      → (a < b.start → get_or b.image a 0 ≡ 0) × (b.end ≤ a → get_or b.image a 0 ≡ 0)
  zero_outside {b} e a =
      let f = finished_build e in
      let h = clean_tries (reads_on tape f.table) builder (numbered f.values) (start o) (statements tape) (clean_blank o) f.tried in
      let same = ap (λ (l : List ℕ). get_or l a 0) f.image in (
        λ l. same ∙ h.before a (subst (λ (n : ℕ). a < n) f.start l),
        λ l. same ∙ h.behind a (subst (λ (n : ℕ). n ≤ a) f.end l),
      )

  -- the passes of an accepted tape never repeat within the limit
  pub unsettled_build : {t : SymbolTable} → names_of tape ≡ Fine t
      → ((n : ℕ) → 1 ≤ n → n ≤ limit
      → ¬ (passes (reads_on tape t) (statements tape) o n ≡ passes (reads_on tape t) (statements tape) o (n - 1)))
      → built tape o ≡ Fault not_settled 0
  unfolding built
  unsettled_build {t} is none =
      ap (λ (a : AnswerAt SymbolTable). and_then a (λ u. built_by (reads_on tape u) (statements tape) o)) is
      ∙ built_refused (reads_on tape t) (statements tape) o (go (settled (reads_on tape t) (statements tape) o) refl)
    where
      go : (a : AnswerAt (ℕ × Values)) → settled (reads_on tape t) (statements tape) o ≡ a → a ≡ Fault not_settled 0
      go (Fine (n, L)) e =
          let h = (Settles.least (reads_on tape t) (statements tape) o e).0 in
          absurd (none n h.some h.within h.repeats)
      go (Fault k at) e =
          let h = Settles.never (reads_on tape t) (statements tape) o e in
          λ i. Fault (h.0 i) (h.1 i)
