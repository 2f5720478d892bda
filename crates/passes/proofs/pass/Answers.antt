-- What the search leaves. Assumes nothing.
use mathlib.Core.Path.{ap, ◌∙◌}
use native.Mathlib.Omega.{arith}
use Rattle.walk.specs.Values.{number_of}
use Rattle.passes.proofs.Passing.{going_start, going_past, going_last, going_on, room_for, low_place}
use Rattle.passes.proofs.pass.Goals as goal

pub loop-at-init : goal.loop-at-init
loop-at-init c = going_start _ _ _ _ c.requires c.no_numbers-given.ensures

pub returns-then-is_last : goal.returns-then-is_last
returns-then-is_last c =
    going_last _ _ _ _ c.loop-at.invariant c.record-rec.ensures c.is_last.ensures c.if-is_last.true

pub overflow_cast-walk : goal.overflow_cast-walk
overflow_cast-walk c = record { sfits = omega (arith, low_place _ _ _ _ c.loop-at.invariant c.requires c.loop-at-test.true) }

pub keep-requires : goal.keep-requires
keep-requires c =
    let kept = c.loop-at.invariant in (
      omega (arith, low_place _ _ _ _ kept c.requires c.loop-at-test.true),
      room_for _ _ _ _ kept c.record-rec.ensures c.is_last.ensures c.if-is_last.false,
    )

pub step-walk-requires : goal.step-walk-requires
step-walk-requires c =
    let kept = c.loop-at.invariant in
    (low_place _ _ _ _ kept c.requires c.loop-at-test.true, omega (arith, kept.room))

pub loop-at-preserved : goal.loop-at-preserved
loop-at-preserved c =
    let kept = c.loop-at.invariant in
    let low = low_place _ _ _ _ kept c.requires c.loop-at-test.true in
    going_on _ _ _ _ kept c.record-rec.ensures c.is_last.ensures c.if-is_last.false (omega (arith, low))
    (c.number_of-read.ensures ∙ ap number_of c.value_of-value.ensures) c.keep.ensures c.step-walk.ensures

pub returns : goal.returns
returns c = going_past _ _ _ _ c.loop-at.invariant c.loop-at-test.false
