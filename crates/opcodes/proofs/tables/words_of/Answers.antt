-- `opcodes::tables::words_of` meets its contract past its table too: a number that is no mnemonic has no page. Assumes nothing.
use Rattle.opcodes.proofs.Packed.{no_words}
use Rattle.opcodes.proofs.tables.words_of.Goals as goal

pub returns-in_default : goal.returns-in_default
returns-in_default c = no_words _ c.in_default.in_default-own.rest
