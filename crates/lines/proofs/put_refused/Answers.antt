-- The two decimal numbers, with the words before and between them. Assumes nothing.
use Rattle.page.proofs.Laying.{laid_then}
use Rattle.lines.specs.Text.{refused_line}
use Rattle.lines.proofs.put_refused.Goals as goal

pub returns : goal.returns
unfolding refused_line
returns c =
    let two = laid_then _ _ _ c.put_all-said.ensures _ c.put_decimal-numbered.ensures in
    let three = laid_then _ _ _ two _ c.put_all-joined.ensures in
    let four = laid_then _ _ _ three _ c.put_decimal-placed.ensures in
    laid_then _ _ _ four _ c.put.ensures
