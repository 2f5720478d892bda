-- The library's test for a number in a list is the definition's. Assumes nothing.
use mathlib.Core.Path.{◌∙◌}
use Rattle.edges.proofs.Laws.{has_any}
use Rattle.edges.proofs.has_super.Goals as goal

pub returns : goal.returns
returns c = c.contains.ensures.value ∙ has_any _ _
