-- Tapes that are made line by line. Assumes nothing: these are definitions.
use Rattle.std.specs.Prelude.{ℕ, zero, suc, ◌+◌, ◌/◌, ◌%◌, Bool, ◌||◌, List, [], ◌∷◌, ◌++◌}
use Rattle.refusals.specs.Answer.{pick}
use Rattle.tape.specs.Kinds.{label}
use Rattle.page.specs.Page.{laid, repeated, same, bytes_in}
use Rattle.script.specs.Words.{word_of, words_from}
use Rattle.script.specs.Numbers.{number_of}
use Rattle.script.specs.Commands.{is_command}

-- ---- the commands that make a tape, by their ASCII codes

-- "tape"
abbrev pub tape_anew : List ℕ
tape_anew = 0x74 ∷ 0x61 ∷ 0x70 ∷ 0x65 ∷ []

-- "more"
abbrev pub more_bytes : List ℕ
more_bytes = 0x6d ∷ 0x6f ∷ 0x72 ∷ 0x65 ∷ []

-- "labels"
abbrev pub more_labels : List ℕ
more_labels = 0x6c ∷ 0x61 ∷ 0x62 ∷ 0x65 ∷ 0x6c ∷ 0x73 ∷ []

unfoldable pub is_tape : List ℕ → Bool
is_tape line = is_command line tape_anew || is_command line more_bytes || is_command line more_labels

-- ---- tapes

-- "x"
abbrev pub times : List ℕ
times = 0x78 ∷ []

-- the bytes behind a command, in hexadecimal; `N x` before them repeats them
unfoldable pub bytes_of : List ℕ → List ℕ
bytes_of line =
    pick (same (word_of 2 line) times) (repeated (number_of 1 line) (bytes_in (words_from 3 line))) (bytes_in (words_from 1 line))

-- the record of a label
abbrev pub label_of : ℕ → List ℕ
label_of id = label ∷ id % 256 ∷ id / 256 % 256 ∷ []

-- the next so many labels behind one
abbrev pub labels_behind : ℕ → ℕ → List ℕ
labels_behind id zero = []
labels_behind id (suc n) = label_of (id + 1) ++ labels_behind (id + 1) n

-- the length of a tape, and the memory that it stands in, after a line
unfoldable pub tape_after : List ℕ → ℕ → List ℕ → ℕ × List ℕ
tape_after memory length line =
    pick (is_command line tape_anew) (laid memory 0 (bytes_of line))
    (pick (is_command line more_bytes) (laid memory length (bytes_of line))
    (pick (is_command line more_labels) (laid memory length (labels_behind 0 (number_of 1 line)))
    (length, memory)))
