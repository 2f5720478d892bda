-- Each call asks the parent of its scope, whose chain to the root is shorter by one: that is the bound. Assumes nothing.
use Rattle.std.proofs.Common.{length}
use Rattle.edges.specs.Edges.{chain, held}
use Rattle.scopes.proofs.+ask.Given as goal

-- what is left of the chain to the root
abbrev pub decreases-ask : goal.decreases-ask
decreases-ask l = length (chain (held l.links.now l.n) l.s)
