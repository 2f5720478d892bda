-- An instruction, or what has dashes. Assumes nothing.
use Rattle.record_lines.proofs.Shown.{called, uncalled}
use Rattle.record_lines.proofs.mnemonic_of.Goals as goal

pub returns-then-u8_at-eq-INSTRUCTION : goal.returns-then-u8_at-eq-INSTRUCTION
returns-then-u8_at-eq-INSTRUCTION c =
    called _ _ c.u8_at.ensures c.if-u8_at-eq-INSTRUCTION.true c.u8_at-then-u8_at-eq-INSTRUCTION.ensures

pub returns : goal.returns
returns c = uncalled _ _ c.u8_at.ensures c.if-u8_at-eq-INSTRUCTION.false
