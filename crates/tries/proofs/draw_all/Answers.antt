-- What the search leaves. Assumes nothing.
use mathlib.Core.Path.{ap}
use native.Mathlib.Omega.{arith}
use Rattle.std.proofs.lemmas.Result.{err_from_is_err_and}
use Rattle.refusals.specs.AnswerAt.{Fine}
use Rattle.tries.specs.declared.Written.{Written}
use Rattle.tries.proofs.Walking.{going_start, going_past, going_last, inside, going_refused, going_on}
use Rattle.tries.proofs.draw_all.Goals as goal

pub loop-at-init : goal.loop-at-init
loop-at-init c =
    going_start _ _ _ _ _ c.requires.1 _ c.requires.2 c.begin-pen.ensures

pub returns-then-is_last : goal.returns-then-is_last
returns-then-is_last c =
    going_last _ _ _ _ _ c.loop-at.invariant c.record-rec.ensures c.is_last.ensures c.if-is_last.true
    (ap (λ (w : Written). Fine (w.start, w.end)) c.range.ensures)

pub advance-requires : goal.advance-requires
advance-requires c =
    let going = c.loop-at.invariant in
    let tape = c.requires.0 in
    let within = inside _ _ _ _ _ going c.record-rec.ensures c.is_last.ensures in
    (going.low, omega (arith, going.few, c.loop-at-test.true, tape), omega (arith, within, tape))

pub returns-in_err-stepped : goal.returns-in_err-stepped
returns-in_err-stepped c =
    let out = err_from_is_err_and c.from_residual.result c.from_residual.ensures.1 in
    rw (out.1, out.2)
    (going_refused _ _ _ _ _ c.loop-at.invariant c.record-rec.ensures c.is_last.ensures c.if-is_last.false _ c.in_err-stepped.ensures)

pub loop-at-preserved : goal.loop-at-preserved
loop-at-preserved c =
    going_on _ _ _ _ _ c.loop-at.invariant c.record-rec.ensures c.is_last.ensures c.if-is_last.false
    _ c.in_ok-stepped.ensures c.advance.auto.image

pub returns : goal.returns
returns c =
    going_past _ _ _ _ _ c.loop-at.invariant c.loop-at-test.false (ap (λ (w : Written). Fine (w.start, w.end)) c.range-2.ensures)
