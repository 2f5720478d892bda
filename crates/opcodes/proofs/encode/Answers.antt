-- `opcodes::encode` meets its contract, by the forms of the row. Assumes nothing.
use mathlib.Core.Path.{refl}
use mathlib.Core.List.{[], ◌∷◌}
use mir.Facts.{to_z-of_z}
use Rattle.opcodes.proofs.Encoding.{tried_first, tried_rest, out_of_range, of_forms, short}
use Rattle.opcodes.proofs.encode.Goals as goal

pub returns-then-not-in_range : goal.returns-then-not-in_range
returns-then-not-in_range c =
    out_of_range c.args.mnemonic c.args.mode c.args.suffix c.in_range.ensures
    c.args.operand c.if-not-in_range.true

pub tried-requires : goal.tried-requires
tried-requires c =
    (short c.args.mnemonic c.args.mode c.args.suffix c.in_range.ensures
    _ c.if-not-in_range.false c.forms_of.ensures c.in-One.is).0

pub coded-requires : goal.coded-requires
coded-requires c =
    (short c.args.mnemonic c.args.mode c.args.suffix c.in_range.ensures
    _ c.if-not-in_range.false c.forms_of.ensures c.in-Two.is).0

pub tried-requires-else-takes : goal.tried-requires-else-takes
tried-requires-else-takes c =
    (short c.args.mnemonic c.args.mode c.args.suffix c.in_range.ensures
    _ c.if-not-in_range.false c.forms_of.ensures c.in-Two.is).1.0

pub returns-in-None : goal.returns-in-None
returns-in-None c =
    of_forms c.args.mnemonic c.args.mode c.args.suffix c.in_range.ensures
    _ c.if-not-in_range.false c.forms_of.ensures c.in-None.is
    _ c.args.operand (to_z-of_z c.ranges.operand)
    refl

pub returns-in-One : goal.returns-in-One
returns-in-One c =
    of_forms c.args.mnemonic c.args.mode c.args.suffix c.in_range.ensures
    _ c.if-not-in_range.false c.forms_of.ensures c.in-One.is
    _ c.args.operand (to_z-of_z c.ranges.operand)
    c.tried.ensures

pub returns-then-takes : goal.returns-then-takes
returns-then-takes c =
    of_forms c.args.mnemonic c.args.mode c.args.suffix c.in_range.ensures
    _ c.if-not-in_range.false c.forms_of.ensures c.in-Two.is
    _ c.args.operand (to_z-of_z c.ranges.operand)
    (tried_first c.in-Two.short (c.in-Two.long ∷ []) _ _ refl c.takes.ensures c.if-takes.true c.coded.ensures)

pub returns-else-takes : goal.returns-else-takes
returns-else-takes c =
    of_forms c.args.mnemonic c.args.mode c.args.suffix c.in_range.ensures
    _ c.if-not-in_range.false c.forms_of.ensures c.in-Two.is
    _ c.args.operand (to_z-of_z c.ranges.operand)
    (tried_rest c.in-Two.short (c.in-Two.long ∷ []) _ _ refl c.takes.ensures c.if-takes.false c.tried-else-takes.ensures)
