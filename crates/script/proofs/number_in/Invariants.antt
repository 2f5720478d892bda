-- The number so far, with the rest of the word behind it, is the word's. Assumes nothing.
use mathlib.Core.Path.{◌≡◌}
use lib.ListN.{drop}
use Rattle.script.specs.Numbers.{number_in}
use Rattle.script.proofs.number_in.Given as goal

abbrev pub invariant-loop-letter : goal.invariant-loop-letter
invariant-loop-letter l = number_in l.number (drop l.letter-index l.word) ≡ number_in 0 l.word
