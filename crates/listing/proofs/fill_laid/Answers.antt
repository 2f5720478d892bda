-- The layout settles, or is refused; then the lines. Assumes nothing.
use mathlib.Core.Path.{ap}
use lib.ListN.{length}
use Rattle.page.proofs.Laying.{laid_same}
use Rattle.layout.specs.Layout.{layout_of}
use Rattle.layout.proofs.Settling.{settled_refused, settled_after}
use Rattle.record_lines.specs.Records.{said}
use Rattle.listing.proofs.Listings.{laid_listed, laid_refused}
use Rattle.listing.proofs.fill_laid.Goals as goal

pub returns-in-Err : goal.returns-in-Err
returns-in-Err c =
    let args = c.args in
    let tape = args.tape.now in
    let nodes = args.nodes.now in
    let refuses = settled_refused (layout_of tape args.initial (length nodes)) c.in-Err.ensures.0 in
    laid_same args.text.now 0 _ (ap said (laid_refused tape nodes args.initial c.requires.1 c.requires.2 refuses))
    (rw c.number.ensures at c.put_refused.ensures)

pub returns-in-Ok : goal.returns-in-Ok
returns-in-Ok c =
    let args = c.args in
    let tape = args.tape.now in
    let nodes = args.nodes.now in
    let found = settled_after (layout_of tape args.initial (length nodes)) c.in-Ok.ensures.0 in
    laid_same args.text.now 0 _
    (ap said (laid_listed tape nodes args.initial c.requires.1 c.requires.2 c.requires.0 found c.in-Ok.ensures.1))
    c.put_records.ensures
