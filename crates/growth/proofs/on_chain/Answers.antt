-- What the search leaves. Assumes nothing.
use mathlib.Core.Path.{sym, ◌∙◌}
use Rattle.edges.proofs.Laws.{reached_node, reached_none}
use Rattle.soundness.proofs.Rooted.{chain_rest, chain_falls}
use Rattle.growth.proofs.Laws as laws
use Rattle.growth.proofs.on_chain.Goals as goal

pub returns-in_default : goal.returns-in_default
returns-in_default c =
    let kept = c.loop-at.invariant in
    let top = reached_none c.parent.ensures c.in_default.is in
    sym (kept.1 ∙ laws.on_top _ _ kept.0.1 c.loop-at-test.true top)

pub loop-at-smaller : goal.loop-at-smaller
loop-at-smaller c =
    let ends = c.loop-at.invariant.0 in
    chain_falls _ _ ends.1 ends.0 (reached_node c.parent.ensures c.in-Some.is)

pub loop-at-preserved : goal.loop-at-preserved
loop-at-preserved c =
    let kept = c.loop-at.invariant in
    let ends = kept.0 in
    let up = reached_node c.parent.ensures c.in-Some.is in (
      (ends.0, (chain_rest _ _ ends.1 ends.0 up).0),
      kept.1
          ∙ laws.on_up _ _ ends.1 ends.0 c.loop-at-test.true up,
    )

pub returns : goal.returns
returns c =
    let kept = c.loop-at.invariant in
    sym (kept.1 ∙ laws.on_here _ _ kept.0.1 c.loop-at-test.false)
