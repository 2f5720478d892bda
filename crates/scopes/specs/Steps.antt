-- What private functions promise each other on the way: the answers of query_all so far. No public promise cites these. Assumes
-- nothing: these are definitions.
use Rattle.std.specs.Prelude.{Bool, List, [], ℕ, ◌+◌, replicate, Option, None, Some}
use Rattle.refusals.specs.Answer.{pick}
use Rattle.edges.specs.Edges.{found}
use Rattle.scopes.specs.declared.Tally.{Tally}

-- a scope's own answer, for k scopes
abbrev pub answers : Option ℕ → ℕ → List ℕ
answers r k = found r [] (λ n. replicate k n)

-- how many answers are written and how many scopes wait behind a scope's own answer
abbrev pub tallied : Option ℕ → Bool → Tally → Tally
tallied (Some n) waits t = record { written = t.written + t.waiting + 1; waiting = 0 }
tallied None waits t = pick waits (record { written = t.written; waiting = t.waiting + 1 }) t
