-- What private functions promise each other on the way. No public promise cites these. Assumes nothing: these are definitions.
use Rattle.std.specs.Prelude.{ℕ, List, set}
use Rattle.refusals.specs.Answer.{pick}
use Rattle.form.specs.Form.{is_numbered}

-- one place of memory, written where a record of this kind has a number in the list
unfoldable pub put_in : {A : Type 0} → List A → ℕ → ℕ → A → List A
put_in l i k a = pick (is_numbered k) (set l i a) l
