-- What each case of an answer says in document 01's terms. Assumes nothing: these are definitions.
use Rattle.std.specs.Prelude.{ℕ, Result, Ok, Err}
use Rattle.refusals.specs.Answer.{Answer, Done, Refused}
use Rattle.refusals.specs.Says.{number_of}
use Rattle.refusals.specs.declared.Refusal.{Refusal}
use Rattle.program_counter.specs.declared.ProgramCounter.{ProgramCounter}
use Rattle.program_counter.specs.declared.Range.{Range}

-- the number of the place
abbrev pub says_place : Result ProgramCounter Refusal → Answer ℕ
says_place (Ok pc) = Done pc.0
says_place (Err e) = Refused (number_of e)

-- where the range begins and ends
abbrev pub says_range : Result Range Refusal → Answer (ℕ × ℕ)
says_range (Ok r) = Done (r.start, r.end)
says_range (Err e) = Refused (number_of e)
