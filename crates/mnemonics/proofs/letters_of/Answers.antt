-- In the table, or behind it. Assumes nothing.
use mathlib.Core.Path.{sym, ap}
use Rattle.mnemonics.specs.Ascii.{ascii}
use Rattle.mnemonics.proofs.Letters.{letters_known, no_name}
use Rattle.mnemonics.proofs.letters_of.Goals as goal

pub returns-then-mnemonic-lt-DATA : goal.returns-then-mnemonic-lt-DATA
returns-then-mnemonic-lt-DATA c = letters_known _ c.if-mnemonic-lt-DATA.true

pub returns-else-mnemonic-lt-DATA : goal.returns-else-mnemonic-lt-DATA
returns-else-mnemonic-lt-DATA c = ap ascii (sym (no_name _ c.if-mnemonic-lt-DATA.false))
