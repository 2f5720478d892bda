-- The three words behind those of all edges. Assumes nothing.
use Rattle.symbols.proofs.Tables.{edge_more}
use borrow.Author.Rules.{rules}
use Rattle.symbols.proofs.SymbolTable.with_edge.Goals as goal

pub returns : goal.returns
returns c = edge_more _ _ _ _ c.requires (search rules)
