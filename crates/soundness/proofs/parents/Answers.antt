-- What the search leaves. Assumes nothing.
use mathlib.Core.Path.{refl}
use native.Mathlib.Omega.{arith}
use lib.ListN.{length-set}
use Rattle.edges.proofs.Laws.{edge_here}
use Rattle.soundness.proofs.Sound.{all_join, no_parents, more_parents}
use Rattle.soundness.proofs.parents.Goals as goal

pub loop-i-init : goal.loop-i-init
loop-i-init c = (refl, no_parents _)

pub overflow_add-up : goal.overflow_add-up
overflow_add-up c =
    let joined = all_join _ _ c.requires.1 c.loop-i-test.true (edge_here _ _ (omega arith) c.edge_at-edge.ensures) in
    omega arith

pub bounds-up-wide : goal.bounds-up-wide
bounds-up-wide c =
    let joined = all_join _ _ c.requires.1 c.loop-i-test.true (edge_here _ _ (omega arith) c.edge_at-edge.ensures) in
    omega arith

pub loop-i-preserved : goal.loop-i-preserved
loop-i-preserved c =
    let edge = edge_here _ _ (omega arith) c.edge_at-edge.ensures in
    let joined = all_join _ _ c.requires.1 c.loop-i-test.true edge in
    let so_far = c.loop-i.invariant in
    (simp length-set so_far.0, more_parents _ _ _ so_far.0 edge c.wide.ensures (omega arith) so_far.1)
