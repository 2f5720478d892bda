-- The loop keeps: what is listed, what the waiting scopes get and what the chain from here answers is all. Assumes nothing.
use lib.ListN.{length}
use Rattle.edges.specs.Edges.{chain, held}
use Rattle.scopes.proofs.All.{AskedTo}
use Rattle.scopes.proofs.ask_all.Given as goal

abbrev pub invariant-loop-up : goal.invariant-loop-up
invariant-loop-up l = AskedTo (held l.links l.n) l.path l.s l.list l.at l.tally

abbrev pub decreases-loop-up : goal.decreases-loop-up
decreases-loop-up l = length (chain (held l.links l.n) l.at)
