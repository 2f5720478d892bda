-- `soundness::is_sound` meets its contract: each test is one of the definition's. Assumes nothing.
use mathlib.Core.Path.{refl, ◌∙◌}
use native.Mathlib.Omega.{arith}
use Rattle.refusals.proofs.Pick.{granted}
use Rattle.soundness.proofs.Chains.{fit_more}
use Rattle.soundness.proofs.Sound.{small_parents, good_edges}
use Rattle.soundness.proofs.is_sound.Goals as goal

pub parents-up-requires : goal.parents-up-requires
parents-up-requires c =
    (c.if-n-gt-EDGES.false, fit_more _ _ _ c.if-nodes-gt-NODES.false (granted c.edges_fit.ensures c.if-not-edges_fit.false))

pub all_reach-requires : goal.all_reach-requires
all_reach-requires c =
    let fit = fit_more _ _ _ c.if-nodes-gt-NODES.false (granted c.edges_fit.ensures c.if-not-edges_fit.false) in
    (omega arith, c.if-nodes-gt-NODES.false, small_parents _ _ fit c.parents-up.ensures, refl)

pub returns : goal.returns
returns c =
    let fit = granted c.edges_fit.ensures c.if-not-edges_fit.false in
    let few = c.if-nodes-gt-NODES.false in
    c.all_reach.ensures _ (record { parents = c.parents-up.ensures; fit = fit; most = few })
    ∙ good_edges _ _ _ c.if-nodes-lt1.false few c.if-n-gt-EDGES.false fit
