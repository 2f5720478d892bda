-- The bytes of a tape that lines make. Assumes nothing: this is a definition.
use Rattle.std.specs.Prelude.{ℕ, List, ◌++◌, take}
use Rattle.refusals.specs.Answer.{pick}
use Rattle.script.specs.Numbers.{number_of}
use Rattle.script.specs.Commands.{is_command}
use Rattle.script_tapes.specs.Tapes.{tape_anew, more_bytes, more_labels, bytes_of, labels_behind}

-- after a line: those that it begins anew, or those with its own behind them, as far as there is room for n
unfoldable pub made : ℕ → List ℕ → List ℕ → List ℕ
made n bytes line =
    pick (is_command line tape_anew) (take n (bytes_of line))
    (pick (is_command line more_bytes) (take n (bytes ++ bytes_of line))
    (pick (is_command line more_labels) (take n (bytes ++ labels_behind 0 (number_of 1 line))) bytes))
