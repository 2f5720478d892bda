-- Two places and a decimal number, with spaces between them. Assumes nothing.
use Rattle.page.proofs.Laying.{laid_then}
use Rattle.lines.specs.Text.{last_line}
use Rattle.lines.proofs.put_last.Goals as goal

pub returns : goal.returns
unfolding last_line
returns c =
    let two = laid_then _ _ _ c.put_place-started.ensures _ c.put-spaced.ensures in
    let three = laid_then _ _ _ two _ c.put_place-ended.ensures in
    let four = laid_then _ _ _ three _ c.put-again.ensures in
    let five = laid_then _ _ _ four _ c.put_decimal-counted.ensures in
    laid_then _ _ _ five _ c.put.ensures
