-- An argument out of its range is the refused line of a 1; else the listing. Assumes nothing.
use mathlib.Core.Path.{sym}
use Prim.Native.Nat.{ℕ}
use lib.ListN.{length-replicate}
use Rattle.page.proofs.Laying.{laid_same}
use Rattle.form.specs.Form.{max_tape}
use Rattle.listing.proofs.Calls.{too_long, too_high, allowed}
use Rattle.listing.proofs.fill.Goals as goal

pub returns-then-tape-gt-LONGEST : goal.returns-then-tape-gt-LONGEST
returns-then-tape-gt-LONGEST c =
    let args = c.args in
    laid_same args.text.now 0 _ (too_long args.tape.now args.initial c.if-tape-gt-LONGEST.true)
    (rw c.number.ensures at c.put_refused.ensures)

pub returns-then-initial-gt-SIZE : goal.returns-then-initial-gt-SIZE
returns-then-initial-gt-SIZE c =
    let args = c.args in
    laid_same args.text.now 0 _ (too_high args.tape.now args.initial c.if-tape-gt-LONGEST.false c.if-initial-gt-SIZE.true)
    (rw c.number-then-initial-gt-SIZE.ensures at c.put_refused-then-initial-gt-SIZE.ensures)

pub slice_bounds-fill_laid-end : goal.slice_bounds-fill_laid-end
slice_bounds-fill_laid-end c = sym (length-replicate {A = ℕ} max_tape 0)

pub fill_laid-requires : goal.fill_laid-requires
fill_laid-requires c =
    (c.if-tape-gt-LONGEST.false, c.if-initial-gt-SIZE.false, length-replicate {A = ℕ} max_tape 0)

pub returns : goal.returns
returns c =
    let args = c.args in
    laid_same args.text.now 0 _ (allowed args.tape.now args.initial c.if-tape-gt-LONGEST.false c.if-initial-gt-SIZE.false)
    c.fill_laid.ensures
