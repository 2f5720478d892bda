-- A text of another length is left alone; one of that length has the listing. Assumes nothing.
use Rattle.listing.proofs.Calls.{other_length, that_length}
use Rattle.listing.proofs.list.Goals as goal

pub returns-then-text-ne-TEXT : goal.returns-then-text-ne-TEXT
returns-then-text-ne-TEXT c =
    let args = c.args in
    other_length args.tape.now args.initial args.text.now c.if-text-ne-TEXT.true

pub returns : goal.returns
returns c =
    let args = c.args in
    that_length args.tape.now args.initial args.text.now c.if-text-ne-TEXT.false c.fill.ensures
