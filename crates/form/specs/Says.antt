-- What an answer that is a refusal or nothing says in the definitions' terms. Assumes nothing: this is a definition.
use Rattle.std.specs.Prelude.{ℕ, Result, Ok, Err}
use Rattle.refusals.specs.declared.Refusal as R
use Rattle.refusals.specs.Says.{number_of}

-- a refusal's number, or 0
abbrev pub fault_number : Result (Unit {0}) R.Refusal → ℕ
fault_number (Ok done) = 0
fault_number (Err e) = number_of e
