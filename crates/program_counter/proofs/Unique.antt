-- Each public call allows one answer: the law of `refusals`, applied to each call's own contract. Assumes nothing.
use mathlib.Core.Path.{◌≡◌, refl, ap}
use Prim.Native.Nat.{ℕ}
use Rattle.std.specs.Prelude.{Result, Ok, Err}
use Rattle.refusals.specs.Answer.{Answer, Done, Refused}
use Rattle.refusals.specs.Says.{says}
use Rattle.refusals.specs.declared.Refusal.{Refusal}
use Rattle.refusals.proofs.Unique.{OneResult, told_apart}
use Rattle.refusals.proofs.One.{back, back_says, refusal_of, back_number}
use Rattle.program_counter.specs.Says.{says_place, says_range}
use Rattle.program_counter.specs.declared.ProgramCounter.{ProgramCounter}
use Rattle.program_counter.specs.declared.Range.{Range}
use Rattle.program_counter.proofs.ProgramCounter.new.Reads as new
use Rattle.program_counter.proofs.ProgramCounter.add.Reads as add
use Rattle.program_counter.proofs.ProgramCounter.sub.Reads as sub
use Rattle.program_counter.proofs.ProgramCounter.as_u16.Reads as as-u16
use Rattle.program_counter.proofs.ProgramCounter.to_le_bytes.Reads as to_le_bytes
use Rattle.program_counter.proofs.ProgramCounter.as_i64.Reads as as-i64
use Rattle.program_counter.proofs.ProgramCounter.as_empty_range.Reads as as-empty-range

-- ---- of a place and of a range, the answer that says this

abbrev pub back_place : Answer ℕ → Result ProgramCounter Refusal
back_place (Done p) = Ok (record { 0 = p })
back_place (Refused n) = Err (refusal_of n)

pub back_place_lem : (x : Result ProgramCounter Refusal) → back_place (says_place x) ≡ x
back_place_lem (Ok pc) = refl
back_place_lem (Err e) = ap Err (back_number e)

abbrev pub back_range : Answer (ℕ × ℕ) → Result Range Refusal
back_range (Done r) = Ok (record { start = r.0; end = r.1 })
back_range (Refused n) = Err (refusal_of n)

pub back_range_lem : (x : Result Range Refusal) → back_range (says_range x) ≡ x
back_range_lem (Ok r) = refl
back_range_lem (Err e) = ap Err (back_number e)

-- ---- the calls

pub new_one : OneResult new.Post
new_one k a x y e f p q = told_apart says_place back_place back_place_lem p q

pub add-one : OneResult add.Post
add-one k a x y e f p q = told_apart says_place back_place back_place_lem p q

pub sub_one : OneResult sub.Post
sub_one k a x y e f p q = told_apart says_place back_place back_place_lem p q

pub as_u16_one : OneResult as-u16.Post
as_u16_one k a x y e f p q = told_apart says back back_says p q

pub to_le_bytes_one : OneResult to_le_bytes.Post
to_le_bytes_one k a x y e f p q = told_apart says back back_says p q

pub as_i64_one : OneResult as-i64.Post
as_i64_one k a x y e f p q = told_apart says back back_says p q

pub as_empty_range_one : OneResult as-empty-range.Post
as_empty_range_one k a x y e f p q = told_apart says_range back_range back_range_lem p q
