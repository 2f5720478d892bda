-- Each row has its sizes, and past the last there are none. Assumes nothing.
use native.Mathlib.Omega.{arith}
use Rattle.tape.proofs.Packed.{row_at, no_row_lem}
use Rattle.tape.proofs.sizes.Goals as goal

pub returns-in-0 : goal.returns-in-0
returns-in-0 c = row_at 0 c.in-0.is

pub returns-in-1 : goal.returns-in-1
returns-in-1 c = row_at 1 c.in-1.is

pub returns-in-2 : goal.returns-in-2
returns-in-2 c = row_at 2 c.in-2.is

pub returns-in-3 : goal.returns-in-3
returns-in-3 c = row_at 3 c.in-3.is

pub returns-in-4 : goal.returns-in-4
returns-in-4 c = row_at 4 c.in-4.is

pub returns-in_default : goal.returns-in_default
returns-in_default c = no_row_lem c.args.row (omega arith)
