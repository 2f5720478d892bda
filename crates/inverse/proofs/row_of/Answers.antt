-- `inverse::row_of` meets its contract: what it reads from its table is each byte's row. Its table is compared with the one that
-- `Inverse` computes from the manual. Assumes nothing.
use borrow.Author.Rules.{rules}
use Rattle.inverse.specs.Inverse.{rows_of}
use Rattle.inverse.proofs.Inverse.{entries, is_none, is_row}
use Rattle.inverse.proofs.row_of.Goals as goal

pub returns-then-row : goal.returns-then-row
unfolding entries rows_of
returns-then-row c = is_none c.args.opcode (search rules) c.if-row.true

pub returns : goal.returns
unfolding entries rows_of
returns c = is_row c.args.opcode (search rules) c.if-row.false
