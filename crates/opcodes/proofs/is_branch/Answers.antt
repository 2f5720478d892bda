-- `opcodes::is_branch` meets its contract: whether a row is a branch is told by its forms. Assumes nothing.
use Rattle.opcodes.proofs.Relative.{by_forms}
use Rattle.opcodes.proofs.is_branch.Goals as goal

pub returns-in-None : goal.returns-in-None
returns-in-None c =
    let a = c.args in
    by_forms a.mnemonic a.mode a.suffix _ c.forms_of.ensures c.in-None.is

pub returns-in-One : goal.returns-in-One
returns-in-One c =
    let a = c.args in
    by_forms a.mnemonic a.mode a.suffix _ c.forms_of.ensures c.in-One.is

pub returns-in-Two : goal.returns-in-Two
returns-in-Two c =
    let a = c.args in
    by_forms a.mnemonic a.mode a.suffix _ c.forms_of.ensures c.in-Two.is
