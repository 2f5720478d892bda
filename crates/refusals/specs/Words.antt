-- How a refusal is written: what a program prints of it. Assumes nothing: these are definitions.
use Rattle.std.specs.Prelude.{ℕ, List, ◌++◌, codes, decimal}
use Rattle.refusals.specs.Says.{number_of}
use Rattle.refusals.specs.declared.Refusal.{Refusal}
use Rattle.refusals.specs.declared.Fault.{Fault}

-- the word, and the number in document 01's table
abbrev pub refusal_text : Refusal → List ℕ
refusal_text why = codes "refused " ++ decimal (number_of why)

-- the same, and the offset of the record at fault
abbrev pub fault_text : Fault → List ℕ
fault_text fault = refusal_text fault.why ++ codes " at " ++ decimal fault.at
