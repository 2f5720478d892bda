-- `opcodes::forms_of` meets its contract: what it reads from the packed words is each row's forms, and what is out of range has
-- none. Assumes nothing.
use native.Mathlib.Omega.{arith}
use Rattle.opcodes.proofs.Manual.{ranges, beyond}
use Rattle.opcodes.proofs.Packed.{Read, byte_fits, second_fits, no_form, two_forms, one_form}
use Rattle.opcodes.proofs.forms_of.Goals as goal

-- what is known once the digits are read
row : (c : goal.After-digit)
    → Read
    c.args.mnemonic
    c.args.mode
    c.args.suffix
    c.words_of-shapes.result.0
    c.words_of-shapes.result.1
    c.digit-shape.result
    c.digit.result
row c =
    let a = c.args in
    record {
      range = ranges a.mnemonic a.mode a.suffix c.in_range.ensures c.if-not-in_range.false;
      words = c.words_of-shapes.ensures;
      shape_is = c.digit-shape.ensures;
      byte_is = c.digit.ensures;
    }

pub returns-then-not-in_range : goal.returns-then-not-in_range
returns-then-not-in_range c =
    let a = c.args in
    beyond a.mnemonic a.mode a.suffix c.in_range.ensures c.if-not-in_range.true

pub digit-shape-requires : goal.digit-shape-requires
digit-shape-requires c =
    let a = c.args in
    let h = ranges a.mnemonic a.mode a.suffix c.in_range.ensures c.if-not-in_range.false in
    omega arith

pub digit-requires : goal.digit-requires
digit-requires c =
    let a = c.args in
    let h = ranges a.mnemonic a.mode a.suffix c.in_range.ensures c.if-not-in_range.false in
    omega arith

pub overflow_shr-opcode : goal.overflow_shr-opcode
overflow_shr-opcode c = omega (arith, byte_fits (row c))

pub overflow_add-result : goal.overflow_add-result
overflow_add-result c = omega (arith, second_fits (row c.before) c.in-4.is)

pub returns-in-0 : goal.returns-in-0
returns-in-0 c = no_form (row c.before) c.in-0.is

pub returns-in-4 : goal.returns-in-4
returns-in-4 c = two_forms (row c.before) c.in-4.is

pub returns-in_default : goal.returns-in_default
returns-in_default c = one_form (row c.before) c.in_default.in_default-own.rest.0.1 c.in_default.in_default-own.rest.1
