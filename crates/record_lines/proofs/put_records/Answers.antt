-- Every statement is tried; then the lines are put, and the last one. Assumes nothing.
use Rattle.record_lines.proofs.Filled.{all_pass, filled_refused, filled_lines}
use Rattle.record_lines.proofs.put_records.Goals as goal

pub put_lines-at-requires : goal.put_lines-at-requires
put_lines-at-requires c =
    let args = c.args in
    all_pass args.tape.now args.nodes.now args.numbers args.initial c.in-Ok.ensures

pub returns-in-Err : goal.returns-in-Err
returns-in-Err c =
    let args = c.args in
    filled_refused args.tape.now args.nodes.now args.numbers args.initial args.passes
    args.text.now c.in-Err.ensures (rw c.number.ensures at c.put_refused.ensures)

pub returns-in-Ok : goal.returns-in-Ok
returns-in-Ok c =
    let args = c.args in
    filled_lines args.tape.now args.nodes.now args.numbers args.initial args.passes
    args.text.now c.in-Ok.ensures c.put_lines-at.ensures c.put_last.ensures
