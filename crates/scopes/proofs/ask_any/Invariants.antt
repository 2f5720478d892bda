-- What is left of the chain gives the answer of the whole. Each turn asks one node of it. Assumes nothing.
use mathlib.Core.Path.{◌≡◌}
use Rattle.edges.specs.Edges.{chain_of, query_on, query_of, held}
use Rattle.scopes.proofs.ask_any.Given as goal

abbrev pub invariant-loop-left : goal.invariant-loop-left
invariant-loop-left l =
    query_on (held l.links l.n) l.path (chain_of (held l.links l.n) l.left l.at) ≡ query_of (held l.links l.n) l.s l.path
