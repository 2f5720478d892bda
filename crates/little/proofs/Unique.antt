-- Each public call allows one answer: the law of `refusals`, applied to each call's own contract. Assumes nothing.
use Rattle.refusals.proofs.Unique.{OneResult, same}
use Rattle.little.proofs.u8_at.Reads as u8-at
use Rattle.little.proofs.u16_at.Reads as u16-at
use Rattle.little.proofs.u64_at.Reads as u64-at
use Rattle.little.proofs.i64_at.Reads as i64-at

pub u8_at_one : OneResult u8-at.Post
u8_at_one k a x y e f p q = same p q

pub u16_at_one : OneResult u16-at.Post
u16_at_one k a x y e f p q = same p q

pub u64_at_one : OneResult u64-at.Post
u64_at_one k a x y e f p q = same p q

pub i64_at_one : OneResult i64-at.Post
i64_at_one k a x y e f p q = same p q
