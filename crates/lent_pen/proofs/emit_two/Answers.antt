-- `emit_two` meets its contract: each test that fails is a refusal of `two`, and where all hold, what `lend` leaves is what `two` says.
-- Assumes nothing.
use mathlib.Core.Path.{ap, ◌∙◌}
use Rattle.refusals.proofs.Pick.{granted, denied}
use Rattle.pen.specs.Pens.{sound}
use Rattle.lent_pen.proofs.Two.{told_over, told_room, two_bad, two_place, two_first, two_second, two_done, refusal, finish}
use Rattle.lent_pen.proofs.emit_two.Goals as goal

pub returns-then-not-is_sound_over : goal.returns-then-not-is_sound_over
returns-then-not-is_sound_over c =
    let over = told_over _ c.is_sound_over.ensures c.begin-here.ensures in
    refusal _ _ _ _ _ (two_bad _ _ _ _ _ (denied over c.if-not-is_sound_over.true))

pub returns-then-not-is_sound : goal.returns-then-not-is_sound
returns-then-not-is_sound c =
    let there = c.is_sound.ensures ∙ ap sound c.begin-there.ensures in
    refusal _ _ _ _ _ (two_place _ _ _ _ _ (denied there c.if-not-is_sound.true))

pub returns-then-not-has_room : goal.returns-then-not-has_room
returns-then-not-has_room c =
    let over = told_over _ c.is_sound_over.ensures c.begin-here.ensures in
    let there = c.is_sound.ensures ∙ ap sound c.begin-there.ensures in
    let room = told_room _ c.has_room.ensures c.begin-here.ensures in
    refusal _ _ _ _ _ (two_first _ _ _ _ _ (granted over c.if-not-is_sound_over.false) (granted there c.if-not-is_sound.false)
    (denied room c.if-not-has_room.true))

pub returns-then-not-has_room-2 : goal.returns-then-not-has_room-2
returns-then-not-has_room-2 c =
    let over = told_over _ c.is_sound_over.ensures c.begin-here.ensures in
    let there = c.is_sound.ensures ∙ ap sound c.begin-there.ensures in
    let room = told_room _ c.has_room.ensures c.begin-here.ensures in
    let more = told_room _ c.has_room-2.ensures c.begin-there.ensures in
    refusal _ _ _ _ _
    (two_second _ _ _ _ _ (granted over c.if-not-is_sound_over.false) (granted there c.if-not-is_sound.false) (granted room c.if-not-has_room.false)
    (denied more c.if-not-has_room-2.true))

pub returns : goal.returns
returns c =
    let over = told_over _ c.is_sound_over.ensures c.begin-here.ensures in
    let there = c.is_sound.ensures ∙ ap sound c.begin-there.ensures in
    let room = told_room _ c.has_room.ensures c.begin-here.ensures in
    let more = told_room _ c.has_room-2.ensures c.begin-there.ensures in
    finish _ _ _ _ _ c.lend.ensures c.range.ensures
    (two_done _ _ _ _ _ (granted over c.if-not-is_sound_over.false) (granted there c.if-not-is_sound.false) (granted room c.if-not-has_room.false)
    (granted more c.if-not-has_room-2.false))
