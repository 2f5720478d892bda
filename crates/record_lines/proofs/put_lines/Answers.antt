-- What the search leaves. Assumes nothing.
use Prim.Native.Nat.{◌≤◌}
use native.Mathlib.Omega.{arith}
use mir.Syntax.{w64}
use mir.Facts.{to_z_pos}
use Rattle.record_lines.proofs.Walking.{going_start, going_past, going_last, inside, some_bytes, going_short, going_on}
use Rattle.record_lines.proofs.put_lines.Goals as goal

pub loop-at-init : goal.loop-at-init
loop-at-init c =
    going_start _ _ _ _ c.requires.1 c.requires.2 _

pub shape_of-text-then-is_last : goal.shape_of-text-then-is_last
shape_of-text-then-is_last c = c.loop-at.invariant.as_long

pub returns-then-is_last : goal.returns-then-is_last
returns-then-is_last c =
    going_last _ _ _ _ c.loop-at.invariant c.record-rec.ensures c.is_last.ensures c.if-is_last.true

pub overflow_add-next : goal.overflow_add-next
overflow_add-next c =
    let tape = c.requires.0 in
    omega (arith, inside _ _ _ _ c.loop-at.invariant c.record-rec.ensures c.is_last.ensures, tape)

pub overflow_cast-place : goal.overflow_cast-place
overflow_cast-place c = omega (arith, c.loop-at.invariant.low)

pub bytes_of-bytes-requires : goal.bytes_of-bytes-requires
bytes_of-bytes-requires c = c.loop-at.invariant.low

pub place_behind-place-requires : goal.place_behind-place-requires
place_behind-place-requires c = (
  c.loop-at.invariant.low,
  (let it : c.bytes_of-bytes.result.len ≤ 3 = let going = c.loop-at.invariant in
      going_short _ _ _ _ going c.record-rec.ensures c.is_last.ensures c.if-is_last.false _
      (to_z_pos w64 (omega (arith, going.low))) c.value_of-value.ensures _ c.bytes_of-bytes.ensures in it),
)

pub loop-at-smaller : goal.loop-at-smaller
loop-at-smaller c =
    let going = c.loop-at.invariant in
    let more = some_bytes _ _ _ _ going c.record-rec.ensures c.is_last.ensures c.if-is_last.false in
    omega (arith, more, c.loop-at-test.true)

pub loop-at-preserved : goal.loop-at-preserved
loop-at-preserved c =
    let going = c.loop-at.invariant in
    going_on _ _ _ _ going c.record-rec.ensures c.is_last.ensures c.if-is_last.false _
    (to_z_pos w64 (omega (arith, going.low))) c.value_of-value.ensures _ c.bytes_of-bytes.ensures _ c.put_record-end.ensures
    c.text-1.given c.place_behind-place.ensures

pub shape_of-text : goal.shape_of-text
shape_of-text c = c.loop-at.invariant.as_long

pub returns : goal.returns
returns c = going_past _ _ _ _ c.loop-at.invariant c.loop-at-test.false
