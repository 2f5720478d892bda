-- `opcodes::coded` meets its contract: each return by the number of operand bytes. Assumes nothing.
use mir.Facts.{to_z-of_z}
use Rattle.opcodes.proofs.Encoding.{code_none, code_one, code_two}
use Rattle.opcodes.proofs.coded.Goals as goal

pub returns-then-form-eq0 : goal.returns-then-form-eq0
returns-then-form-eq0 c =
    code_none c.args.form _ c.args.operand (to_z-of_z c.ranges.operand) c.if-form-eq0.true

pub returns-then-form-eq1 : goal.returns-then-form-eq1
returns-then-form-eq1 c =
    code_one c.args.form _ c.args.operand (to_z-of_z c.ranges.operand) c.if-form-eq1.true c.low_byte.ensures

pub returns : goal.returns
returns c =
    code_two c.args.form _ c.args.operand (to_z-of_z c.ranges.operand) c.if-form-eq0.false c.if-form-eq1.false c.requires
    c.low_word-word.ensures
