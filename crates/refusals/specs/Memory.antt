-- What lent memory holds, as the list of its numbers. Assumes nothing: this is a definition.
use Rattle.std.specs.Prelude.{ℕ, ◌+◌, List, ◌++◌, length, take, drop}

-- xs with ys over it from index `at` on; before and behind, as it was
unfoldable pub over : List ℕ → ℕ → List ℕ → List ℕ
over xs at ys = take at xs ++ ys ++ drop (at + length ys) xs
