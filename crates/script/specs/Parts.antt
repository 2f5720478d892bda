-- The parts of a text, which a mark divides. Assumes nothing: these are definitions.
use Rattle.std.specs.Prelude.{ℕ, zero, suc, ◌+◌, List, [], ◌∷◌, eqb}
use Rattle.refusals.specs.Answer.{pick}

-- what stands before the first mark; all where there is none
abbrev pub until : ℕ → List ℕ → List ℕ
until mark [] = []
until mark (c ∷ cs) = pick (eqb c mark) [] (c ∷ until mark cs)

-- what stands behind the first mark; nothing where there is none
abbrev pub behind : ℕ → List ℕ → List ℕ
behind mark [] = []
behind mark (c ∷ cs) = pick (eqb c mark) cs (behind mark cs)

-- what stands behind so many marks
abbrev pub from : ℕ → ℕ → List ℕ → List ℕ
from mark zero text = text
from mark (suc n) text = from mark n (behind mark text)

-- how many bytes stand behind a mark, where this one stands before the text
abbrev pub starts : ℕ → ℕ → List ℕ → ℕ
starts mark before [] = 0
starts mark before (c ∷ cs) = pick (eqb before mark) 1 0 + starts mark c cs
