-- The place, the bytes, a space, the letters and the line's end, one behind the other. Assumes nothing.
use Rattle.page.proofs.Laying.{laid_then, laid_same}
use Rattle.lines.specs.Text.{line}
use Rattle.lines.proofs.put_line.Goals as goal

pub returns : goal.returns
unfolding line
returns c =
    let two = laid_then _ _ _ c.put_place-placed.ensures _ c.put_bytes-listed.ensures in
    let three = laid_then _ _ _ two _ c.put-spaced.ensures in
    let four = laid_then _ _ _ three _ (laid_same _ _ _ c.letters_of.ensures c.put_all-named.ensures) in
    laid_then _ _ _ four _ c.put.ensures
