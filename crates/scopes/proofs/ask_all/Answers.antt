-- What the search leaves. Assumes nothing.
use Rattle.edges.proofs.Laws.{reached_node, reached_none}
use Rattle.soundness.proofs.Rooted.{chain_falls}
use Rattle.scopes.proofs.All as all
use Rattle.scopes.proofs.ask_all.Goals as goal

pub loop-up-init : goal.loop-up-init
loop-up-init c = all.ask_begins _ _ _ c.requires.0 c.requires.1

pub noted-tally-requires : goal.noted-tally-requires
noted-tally-requires c = all.ask_room _ _ _ c.loop-up.invariant

pub returns-in_default : goal.returns-in_default
returns-in_default c =
    let top = reached_none c.parent.ensures c.in_default.is in
    all.ask_ends _ _ _ c.loop-up.invariant c.walk-reached.result c.walk-reached.ensures
    c.has_super-waits.ensures c.noted-tally.ensures top

pub loop-up-smaller : goal.loop-up-smaller
loop-up-smaller c =
    let ends = c.loop-up.invariant.ends in
    chain_falls _ _ ends.1 ends.0 (reached_node c.parent.ensures c.in-Some.is)

pub loop-up-preserved : goal.loop-up-preserved
loop-up-preserved c =
    let up = reached_node c.parent.ensures c.in-Some.is in
    all.ask_up _ _ _ c.loop-up.invariant c.walk-reached.result c.walk-reached.ensures
    c.has_super-waits.ensures c.noted-tally.ensures up
