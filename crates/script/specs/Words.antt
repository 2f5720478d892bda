-- The lines of a text and the words of a line, counted from 0 on. Assumes nothing: these are definitions.
use Rattle.std.specs.Prelude.{ℕ, List}
use Rattle.script.specs.Parts.{until, from, starts}

-- by their ASCII codes
abbrev pub line_feed : ℕ
line_feed = 0x0a

abbrev pub blank : ℕ
blank = 0x20

-- a line begins at the first byte, and at each behind a line feed
abbrev pub lines_in : List ℕ → ℕ
lines_in text = starts line_feed line_feed text

abbrev pub line_of : ℕ → List ℕ → List ℕ
line_of number text = until line_feed (from line_feed number text)

-- a word likewise, with blanks; between two blanks stands an empty one
abbrev pub words_in : List ℕ → ℕ
words_in line = starts blank blank line

abbrev pub word_of : ℕ → List ℕ → List ℕ
word_of number line = until blank (from blank number line)

abbrev pub words_from : ℕ → List ℕ → List ℕ
words_from number line = from blank number line
