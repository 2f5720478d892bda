-- The space, then the two digits. Assumes nothing.
use Rattle.page.proofs.Laying.{laid_then, laid_same}
use Rattle.lines.proofs.put_byte.Goals as goal

pub returns : goal.returns
returns c =
    laid_then _ _ _ c.put-spaced.ensures _ (laid_same _ _ _ c.capital.ensures c.put_all.ensures)
