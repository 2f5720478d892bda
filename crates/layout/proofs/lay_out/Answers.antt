-- The initial place, the names, and the passes behind them. Assumes nothing.
use mathlib.Core.Path.{sym, ap, ◌∙◌}
use Rattle.std.proofs.lemmas.Result.{err_from_is_err_and}
use Rattle.refusals.specs.AnswerAt.{mapped}
use Rattle.passes.specs.Settle.{handed}
use Rattle.layout.proofs.Layouts.{far_refused, far_notes, noted, names_stop, names_go}
use Rattle.layout.proofs.lay_out.Goals as goal

pub returns-then-initial-gt-LAST_PLACE : goal.returns-then-initial-gt-LAST_PLACE
returns-then-initial-gt-LAST_PLACE c =
    let args = c.args in
    let tape = args.tape.now in
    let far = c.if-initial-gt-LAST_PLACE.true in
    let e = c.at.ensures in
    (rw e (ap (mapped handed) (far_refused tape args.initial far _)), far_notes tape args.initial far args.nodes.now)

pub returns-in_err-declare : goal.returns-in_err-declare
returns-in_err-declare c =
    let args = c.args in
    let tape = args.tape.now in
    let nodes = args.nodes.now in
    let low = c.if-initial-gt-LAST_PLACE.false in
    let names = c.in_err-declare.ensures in
    let out = err_from_is_err_and c.from_residual.result c.from_residual.ensures.1 in (
      rw (out.1, out.2) (ap (mapped handed) (names_stop tape args.initial low nodes (sym names.0))),
      names.1 ∙ noted tape args.initial low nodes,
    )

pub returns : goal.returns
returns c =
    let args = c.args in
    let tape = args.tape.now in
    let nodes = args.nodes.now in
    let low = c.if-initial-gt-LAST_PLACE.false in
    let names = c.in_ok-declare.ensures in (
      c.settle.ensures ∙ ap (mapped handed) (names_go tape args.initial low nodes (sym names.0) names.1),
      names.1 ∙ noted tape args.initial low nodes,
    )
