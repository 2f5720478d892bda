-- What the search leaves. Assumes nothing.
use Rattle.std.proofs.Common.{ap, ◌∙◌, ◌≡◌}
use Rattle.std.proofs.lemmas.Result.{err_from_is_err_and}
use Rattle.std.specs.Prelude.{Ok}
use Rattle.refusals.specs.declared.Fault.{Fault}
use Rattle.form.proofs.Mapped.{mapped_err, mapped_ok}
use Rattle.form.proofs.Loop.{too_long, at_end, refused_head, turn_good, stepped, is_ready, refused_short, refused_step, at_stop, onward}
use Rattle.form.proofs.check.Goals as goal

pub returns-then-len-gt-LONGEST : goal.returns-then-len-gt-LONGEST
returns-then-len-gt-LONGEST c = rw c.at.ensures (too_long _ _ c.if-len-gt-LONGEST.true)

pub returns-in_err-map_err : goal.returns-in_err-map_err
returns-in_err-map_err c =
    let why = mapped_err c.head_fault.result c.map_err.result _ c.map_err.ensures.cases _ c.in_err-map_err.was in
    let made = why.2 in
    let fault : Fault = record { why = why.0; at = c.loop-at.at } in
    let is : c.in_err-map_err.field-0.0 ≡ fault = cc in
    let out = err_from_is_err_and c.from_residual.result c.from_residual.ensures.1 in
    rw (out.1, out.2, is) (refused_head c.loop-at.invariant _ c.depth.ensures c.loop-at-test.true _ c.head_fault.ensures _ why.1)

pub returns-then-n-eq0 : goal.returns-then-n-eq0
returns-then-n-eq0 c =
    let passed = mapped_ok c.head_fault.result c.map_err.result _ c.map_err.ensures.cases _ c.in_ok-map_err.was in
    let turn = turn_good c.loop-at.invariant _ c.depth.ensures c.loop-at-test.true _ c.head_fault.ensures passed in
    rw c.at-then-n-eq0.ensures (refused_short turn _ c.record-rec.ensures c.if-n-eq0.true)

pub step-requires : goal.step-requires
step-requires c =
    let passed = mapped_ok c.head_fault.result c.map_err.result _ c.map_err.ensures.cases _ c.in_ok-map_err.was in
    is_ready (turn_good c.loop-at.invariant _ c.depth.ensures c.loop-at-test.true _ c.head_fault.ensures passed)

pub returns-in_err-map_err-2 : goal.returns-in_err-map_err-2
returns-in_err-map_err-2 c =
    let passed = mapped_ok c.head_fault.result c.map_err.result _ c.map_err.ensures.cases _ c.in_ok-map_err.was in
    let why = mapped_err c.step.result c.map_err-in-loop-at.result _ c.map_err-in-loop-at.ensures.cases _ c.in_err-map_err-2.was in
    let made = why.2 in
    let fault : Fault = record { why = why.0; at = c.loop-at.at } in
    let is : c.in_err-map_err-2.field-0.0 ≡ fault = cc in
    let out = err_from_is_err_and c.from_residual-in_err-map_err-2.result c.from_residual-in_err-map_err-2.ensures.1 in
    let turn = stepped c.loop-at.invariant _ c.depth.ensures c.loop-at-test.true _ c.head_fault.ensures passed
    _ c.record-rec.ensures c.if-n-eq0.false _ c.step.ensures.0 in
    rw (out.1, out.2, is) (refused_step turn _ why.1)

pub returns-in-None : goal.returns-in-None
returns-in-None c =
    let passed = mapped_ok c.head_fault.result c.map_err.result _ c.map_err.ensures.cases _ c.in_ok-map_err.was in
    let turn = stepped c.loop-at.invariant _ c.depth.ensures c.loop-at-test.true _ c.head_fault.ensures passed
    _ c.record-rec.ensures c.if-n-eq0.false _ c.step.ensures.0 in
    let gave = mapped_ok c.step.result c.map_err-in-loop-at.result _ c.map_err-in-loop-at.ensures.cases _ c.in_ok-map_err-2.was in
    c.ended.ensures ∙ at_stop turn (gave ∙ ap Ok c.in-None.is)

pub loop-at-preserved : goal.loop-at-preserved
loop-at-preserved c =
    let passed = mapped_ok c.head_fault.result c.map_err.result _ c.map_err.ensures.cases _ c.in_ok-map_err.was in
    let turn = stepped c.loop-at.invariant _ c.depth.ensures c.loop-at-test.true _ c.head_fault.ensures passed
    _ c.record-rec.ensures c.if-n-eq0.false _ c.step.ensures.0 in
    let gave = mapped_ok c.step.result c.map_err-in-loop-at.result _ c.map_err-in-loop-at.ensures.cases _ c.in_ok-map_err-2.was in
    onward turn _ (gave ∙ ap Ok c.in-Some.is) c.step.ensures.1

pub returns : goal.returns
returns c = c.closed.ensures ∙ at_end c.loop-at.invariant _ c.depth-2.ensures c.loop-at-test.false
