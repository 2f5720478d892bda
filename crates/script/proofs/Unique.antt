-- Each public call allows one answer: the law of `refusals`, applied to each call's own contract. Assumes nothing.
use mathlib.Core.List.{List}
use Prim.Native.Nat.{ℕ}
use Rattle.refusals.proofs.Unique.{One, OneResult, same}
use Rattle.script.proofs.lines.Reads as lines
use Rattle.script.proofs.line.Reads as line
use Rattle.script.proofs.words.Reads as words
use Rattle.script.proofs.word.Reads as word
use Rattle.script.proofs.words_from.Reads as words-from
use Rattle.script.proofs.number.Reads as number
use Rattle.script.proofs.is_command.Reads as is-command
use Rattle.script.proofs.command.Reads as command
use Rattle.script.proofs.is_silent.Reads as is-silent

-- ---- numbers and tests

pub lines_one : OneResult lines.Post
lines_one k a x y e f p q = same p q

pub words_one : OneResult words.Post
words_one k a x y e f p q = same p q

pub number_one : OneResult number.Post
number_one k a x y e f p q = same p q

pub is_command_one : OneResult is-command.Post
is_command_one k a x y e f p q = same p q

pub command_one : OneResult command.Post
command_one k a x y e f p q = same p q

pub is_silent_one : OneResult is-silent.Post
is_silent_one k a x y e f p q = same p q

-- ---- the bytes of a part

pub line_one : One {S = λ k. List ℕ} (λ k x e. x.now) line.Post
line_one k a x y e f p q = same p q

pub word_one : One {S = λ k. List ℕ} (λ k x e. x.now) word.Post
word_one k a x y e f p q = same p q

pub words_from_one : One {S = λ k. List ℕ} (λ k x e. x.now) words-from.Post
words_from_one k a x y e f p q = same p q
