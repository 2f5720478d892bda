-- Items in fixed memory. Assumes nothing: these are definitions.
use Rattle.std.specs.Prelude.{ℕ, zero, suc, ◌+◌, nat_le, List, ◌++◌, length}
use Rattle.refusals.specs.Answer.{pick}

-- more items behind others, where there is room for n in all; else none of them
abbrev pub joined : {A : Type 0} → ℕ → List A → List A → List A
joined n items more = pick (nat_le (length items + length more) n) (items ++ more) items

-- the same so often
abbrev pub joined_often : {A : Type 0} → ℕ → ℕ → List A → List A → List A
joined_often n zero more items = items
joined_often n (suc k) more items = joined n (joined_often n k more items) more
