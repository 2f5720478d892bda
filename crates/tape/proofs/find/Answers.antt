-- Each way out is one of the answers at an offset. Assumes nothing.
use mathlib.Core.Path.{sym, ap, ◌∙◌}
use lib.ListN.{length}
use Rattle.refusals.specs.AnswerAt.{Fine, mapped}
use Rattle.tape.proofs.Records as records
use Rattle.tape.proofs.find.Goals as goal

pub returns-then-len-at : goal.returns-then-len-at
returns-then-len-at c = rw c.at.ensures (sym (ap (mapped length) (records.record_past _ _ c.if-len-at.true)))

pub returns-then-n-eq0 : goal.returns-then-n-eq0
returns-then-n-eq0 c =
    let inside = c.if-len-at.false in
    rw c.at-then-n-eq0.ensures (sym (ap (mapped length) (records.record_unknown _ _ _ inside c.size-n.ensures c.if-n-eq0.true)))

pub returns-then-len-at-2 : goal.returns-then-len-at-2
returns-then-len-at-2 c =
    let inside = c.if-len-at.false in
    rw c.at-then-len-at-2.ensures
    (sym (ap (mapped length) (records.record_cut _ _ _ inside c.size-n.ensures c.if-n-eq0.false c.if-len-at-2.true)))

pub returns : goal.returns
returns c =
    let inside = c.if-len-at.false in
    let is = c.size-n.ensures in
    let whole = records.record_whole _ _ _ inside is c.if-n-eq0.false c.if-len-at-2.false in
    sym (ap (mapped length) whole ∙ ap Fine (records.whole_length _ _ _ inside is c.if-len-at-2.false))
