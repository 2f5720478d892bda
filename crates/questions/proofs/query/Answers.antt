-- The query of the edges that are lent. Assumes nothing.
use Rattle.symbols.specs.Symbols.{query}
use Rattle.questions.proofs.query.Goals as goal

pub returns : goal.returns
unfolding query
returns c = c.query.ensures
