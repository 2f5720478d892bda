-- What the search leaves. Assumes nothing.
use mathlib.Core.Path.{◌≡◌, sym, ap, ◌∙◌}
use Prim.Native.Nat.{ℕ}
use native.Mathlib.Omega.{arith}
use lib.ListN.{length, length-set, length-replicate}
use Rattle.edges.specs.Edges.{max_nodes}
use Rattle.soundness.specs.Sound.{all_below, rooted}
use Rattle.soundness.proofs.Sound.{reach_begins, reach_goes, reach_fails}
use Rattle.soundness.proofs.all_reach.Goals as goal

pub loop-s-init : goal.loop-s-init
loop-s-init c =
    let fresh = c.requires.3 in
    (simp length-set (ap length fresh ∙ length-replicate {A = ℕ} max_nodes 0), λ es tells. reach_begins es fresh)

pub returns-then-not-reaches : goal.returns-then-not-reaches
returns-then-not-reaches c =
    let reached = c.loop-s.invariant.1 in
    let below = c.loop-s-test.true in
    let walk = c.reaches.ensures in
    λ es tells. reach_fails es below c.if-not-reaches.true (walk.1 es _ tells below (reached es tells).known).0

pub loop-s-preserved : goal.loop-s-preserved
loop-s-preserved c =
    let reached = c.loop-s.invariant.1 in
    let walk = c.reaches.ensures in (
      walk.0,
      λ es tells.
          reach_goes (reached es tells) c.if-not-reaches.false (walk.1 es _ tells c.loop-s-test.true (reached es tells).known),
    )

pub returns : goal.returns
returns c =
    let done : c.loop-s.s ≡ c.args.nodes = omega arith in
    λ es tells. sym (ap (λ (k : ℕ). all_below k (rooted es)) (sym done) ∙ (c.loop-s.invariant.1 es tells).all)
