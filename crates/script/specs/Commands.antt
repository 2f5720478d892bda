-- What a line begins with. Assumes nothing: these are definitions.
use Rattle.std.specs.Prelude.{ℕ, zero, suc, ◌+◌, Bool, true, List, [], ◌∷◌, eqb}
use Rattle.refusals.specs.Answer.{pick}
use Rattle.page.specs.Page.{same}
use Rattle.script.specs.Words.{word_of, words_in}

-- the first word of a line is its command
abbrev pub is_command : List ℕ → List ℕ → Bool
is_command line command = same (word_of 0 line) command

-- the number of the first name that is a line's command, of so many names from one on; where none is, the
-- number behind them
abbrev pub command_from : List ℕ → List ℕ → ℕ → ℕ → ℕ
command_from line names i zero = i
command_from line names i (suc left) =
    pick (is_command line (word_of i names)) i (command_from line names (i + 1) left)

-- of all names, which are words of one line
abbrev pub command_of : List ℕ → List ℕ → ℕ
command_of line names = command_from line names 0 (words_in names)

-- an empty line, or a comment, which begins with a `#`
abbrev pub is_silent : List ℕ → Bool
is_silent [] = true
is_silent (c ∷ cs) = eqb c 0x23
