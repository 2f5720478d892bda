-- A set place leads away; else the place goes on by the length. Assumes nothing.
use native.Mathlib.Omega.{arith}
use Rattle.form.specs.Statements.{what_of}
use Rattle.walk.proofs.Records.{place_set, place_other, few_bytes}
use Rattle.passes.proofs.place_after.Goals as goal

pub returns-then-u8_at-eq-SET_PLACE : goal.returns-then-u8_at-eq-SET_PLACE
returns-then-u8_at-eq-SET_PLACE c = place_set _ _ c.u8_at.ensures _ c.if-u8_at-eq-SET_PLACE.true _ c.moved_to.ensures

pub overflow_add-result : goal.overflow_add-result
overflow_add-result c =
    let given = c.args in
    omega (arith, few_bytes (what_of given.rec.now) given.read c.length_in.ensures, c.requires)

pub returns : goal.returns
returns c = place_other _ _ c.u8_at.ensures _ c.if-u8_at-eq-SET_PLACE.false _ c.length_in.ensures
