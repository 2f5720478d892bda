-- No line, or that of the record's place, bytes and mnemonic. Assumes nothing.
use Rattle.record_lines.proofs.Shown.{no_line, line_put}
use Rattle.record_lines.proofs.put_record.Goals as goal

pub returns-then-bytes-eq0 : goal.returns-then-bytes-eq0
returns-then-bytes-eq0 c =
    let args = c.args in
    no_line _ _ args.place _ args.bytes c.if-bytes-eq0.true

pub returns : goal.returns
returns c =
    let args = c.args in
    line_put _ _ args.place _ args.bytes c.if-bytes-eq0.false c.cut.ensures c.mnemonic_of.ensures c.put_line.ensures
