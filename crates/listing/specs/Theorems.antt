-- What a listing has of the build of the same tape. Assumes nothing: these are definitions.
use Rattle.std.specs.Prelude.{ℕ, List, ◌++◌, ◌≡◌}
use Rattle.refusals.specs.AnswerAt.{Fine, Fault}
use Rattle.walk.specs.Walk.{Origin}
use Rattle.builds.specs.Build.{Build, built}
use Rattle.lines.specs.Text.{last_line}
use Rattle.listing.specs.Listing.{listed}

-- a listing says what the build says: it is refused where the build is, by the same number at the same offset, and else ends with the
-- build's start, end and passes
pub record AsBuilt (tape : List ℕ) (o : Origin) : Type 0 where
  pub refused : (n at : ℕ) → built tape o ≡ Fault n at → listed tape o ≡ Fault n at
  pub finished : (b : Build) → built tape o ≡ Fine b
      → (ls : List ℕ) × (listed tape o ≡ Fine (ls ++ last_line b.start b.end b.passes))
