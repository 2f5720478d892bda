-- Each public call allows one answer: the law of `refusals`, applied to each call's own contract.
-- Assumes nothing.
use Rattle.refusals.specs.Says.{says}
use Rattle.refusals.proofs.Unique.{One, OneResult, same, told_apart}
use Rattle.refusals.proofs.One.{back, back_says}
use Rattle.program_counter.specs.Says.{says_place, says_range}
use Rattle.program_counter.proofs.Unique.{back_place, back_place_lem, back_range, back_range_lem}
use Rattle.pen.proofs.Pen.new.Reads as new
use Rattle.pen.proofs.Pen.pc.Reads as pc
use Rattle.pen.proofs.Pen.target_pc.Reads as target-pc
use Rattle.pen.proofs.Pen.range.Reads as range
use Rattle.pen.proofs.Pen.target_offset.Reads as target-offset
use Rattle.pen.proofs.Pen.range_data.Reads as range-data
use Rattle.pen.proofs.Pen.range_data_answer.Reads as range-data-answer
use Rattle.pen.proofs.Pen.is_sound.Reads as is_sound
use Rattle.pen.proofs.Pen.is_sound_over.Reads as is-sound-over
use Rattle.pen.proofs.Pen.has_room.Reads as has_room
use Rattle.pen.proofs.begin.Reads as begin

pub new_one : OneResult new.Post
new_one k a x y e f p q = told_apart says back back_says p q

pub pc_one : OneResult pc.Post
pc_one k a x y e f p q = told_apart says_place back_place back_place_lem p q

pub target_pc_one : OneResult target-pc.Post
target_pc_one k a x y e f p q = told_apart says back back_says p q

pub range_one : OneResult range.Post
range_one k a x y e f p q = told_apart says_range back_range back_range_lem p q

pub target_offset_one : OneResult target-offset.Post
target_offset_one k a x y e f p q = told_apart says back back_says p q

-- of the part that is handed out, its bytes
pub range_data_one : One (λ k x e. x.now) range-data.Post
range_data_one k a x y e f p q = same p q

pub range_data_answer_one : OneResult range-data-answer.Post
range_data_answer_one k a x y e f p q = told_apart says back back_says p q

pub is_sound_one : OneResult is_sound.Post
is_sound_one k a x y e f p q = same p q

pub is_sound_over_one : OneResult is-sound-over.Post
is_sound_over_one k a x y e f p q = same p q

pub has_room_one : OneResult has_room.Post
has_room_one k a x y e f p q = same p q

pub begin_one : OneResult begin.Post
begin_one k a x y e f p q = same p q
