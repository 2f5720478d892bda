-- What the search leaves. Assumes nothing.
use mathlib.Core.Path.{refl, sym, ap, ◌∙◌, ◌≡◌}
use Rattle.std.proofs.lemmas.Result.{err_from_is_err_and}
use Rattle.refusals.specs.declared.Fault.{Fault}
use Rattle.form.proofs.Faults.{refuses}
use Rattle.form.proofs.Mapped.{mapped_err, mapped_ok}
use Rattle.form.specs.Says.{fault_number}
use Rattle.names.proofs.Filling.{fill_start, fill_past, fill_last, fill_refused, fill_on}
use Rattle.names.proofs.fill.Goals as goal

pub loop-at-init : goal.loop-at-init
loop-at-init c = fill_start _ c.requires.0 c.requires.1 refl

pub returns-then-is_last : goal.returns-then-is_last
returns-then-is_last c =
    fill_last c.loop-at.invariant c.record-rec.ensures (sym c.is_last.ensures ∙ c.if-is_last.true)

pub returns-in_err-map_err : goal.returns-in_err-map_err
returns-in_err-map_err c =
    let why = mapped_err c.fault_of.result c.map_err.result _ c.map_err.ensures.cases _ c.in_err-map_err.was in
    let made = why.2 in
    let fault : Fault = record { why = why.0; at = c.loop-at.at } in
    let is : c.in_err-map_err.field-0.0 ≡ fault = cc in
    let out = err_from_is_err_and c.from_residual.result c.from_residual.ensures.1 in
    let not_last = sym c.is_last.ensures ∙ c.if-is_last.false in
    rw (out.1, out.2, is)
    (fill_refused c.loop-at.invariant c.record-rec.ensures not_last (ap fault_number (sym why.1) ∙ c.fault_of.ensures) (refuses _))

pub loop-at-preserved : goal.loop-at-preserved
loop-at-preserved c =
    let passed = mapped_ok c.fault_of.result c.map_err.result _ c.map_err.ensures.cases _ c.in_ok-map_err.was in
    let not_last = sym c.is_last.ensures ∙ c.if-is_last.false in
    fill_on c.loop-at.invariant c.record-rec.ensures not_last (ap fault_number (sym passed) ∙ c.fault_of.ensures) refl
    c.put.ensures c.behind-walk.ensures

pub returns : goal.returns
returns c = fill_past c.loop-at.invariant c.loop-at-test.false
