-- The arguments, the names, and the numbers behind them. Assumes nothing.
use Rattle.std.proofs.lemmas.Result.{err_from_is_err_and}
use Rattle.refusals.proofs.Pick.{granted}
use Rattle.checker.proofs.Checks.{blank, blank_length, names_few, names_stop, names_go}
use Rattle.checker.proofs.check.Goals as goal

pub check_numbers-requires : goal.check_numbers-requires
check_numbers-requires c =
    let args = c.args in
    names_few args.tape.now args.initial args.numbers.now args.start args.bytes.now
    (granted c.is_allowed.ensures c.if-not-is_allowed.false) blank blank_length c.in_ok-declare.ensures.0

pub returns-in_err-declare : goal.returns-in_err-declare
returns-in_err-declare c =
    let args = c.args in
    let out = err_from_is_err_and c.from_residual.result c.from_residual.ensures.1 in
    rw (out.1, out.2)
    (names_stop args.tape.now args.initial args.numbers.now args.start args.bytes.now
    (granted c.is_allowed.ensures c.if-not-is_allowed.false) blank blank_length c.in_err-declare.ensures.0)

pub returns : goal.returns
returns c =
    let args = c.args in
    names_go args.tape.now args.initial args.numbers.now args.start args.bytes.now
    (granted c.is_allowed.ensures c.if-not-is_allowed.false) blank blank_length c.in_ok-declare.ensures.0 c.in_ok-declare.ensures.1
    c.check_numbers.ensures
