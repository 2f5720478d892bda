-- The answers of the edges that are lent. Assumes nothing.
use Rattle.symbols.specs.Symbols.{query_all}
use borrow.Author.Rules.{rules}
use Rattle.questions.proofs.query_all.Goals as goal

pub returns : goal.returns
unfolding query_all
returns c = search rules
