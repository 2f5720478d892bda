-- What private functions promise each other on the way. No public promise cites these. Assumes nothing: these are definitions.
use Rattle.std.specs.Prelude.{ℕ, List, ℤ, pos}
use Rattle.refusals.specs.AnswerAt.{AnswerAt, Fine, Fault}
use Rattle.edges.specs.Edges.{max_nodes}
use Rattle.walk.specs.Numbers.{filled}
use Rattle.finish.specs.Finish.{Report}
use Rattle.builds.specs.Build.{Build}
use Rattle.builder.specs.Call.{report}

-- what is answered, and what is left of an image and of a number list that was zero
abbrev pub leaving : List ℕ → List ℤ → AnswerAt Build → AnswerAt Report × List ℕ × List ℤ
leaving image list (Fine b) = (Fine (report b), b.image, filled max_nodes (pos 0) b.numbers)
leaving image list (Fault n at) = (Fault n at, image, list)
