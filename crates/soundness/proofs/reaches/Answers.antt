-- What the search leaves. Assumes nothing.
use mathlib.Core.Path.{sym}
use native.Mathlib.Omega.{arith}
use lib.ListN.{length-set}
use Rattle.refusals.proofs.Never.{never}
use Rattle.soundness.proofs.Sound.{fewer, walk_begins, walk_goes, walk_stops, walk_ends}
use Rattle.soundness.proofs.reaches.Goals as goal

pub loop-seen-init : goal.loop-seen-init
loop-seen-init c = (c.requires.0, c.requires.2, λ es n tells below known. walk_begins below known)

pub returns-then-p-eq0 : goal.returns-then-p-eq0
returns-then-p-eq0 c =
    let free = c.loop-seen-test.true in
    let walk = c.loop-seen in (
      simp length-set walk.invariant.1,
      λ es n tells below known. (
        sym (walk_stops tells (walk.invariant.2 es n tells below known) free c.wide-p.ensures c.if-p-eq0.true),
        λ no. never (cc),
      ),
    )

pub loop-seen-smaller : goal.loop-seen-smaller
loop-seen-smaller c =
    let walk = c.loop-seen in
    fewer walk.seen walk.at _ (omega arith) c.loop-seen-test.true

pub loop-seen-preserved : goal.loop-seen-preserved
loop-seen-preserved c =
    let free = c.loop-seen-test.true in
    let walk = c.loop-seen in
    let parent-small = c.requires.1 walk.at walk.invariant.0 in (
      omega arith,
      simp length-set walk.invariant.1,
      λ es n tells below known.
          walk_goes tells (walk.invariant.2 es n tells below known) (omega arith) free c.wide-p.ensures c.if-p-eq0.false,
    )

pub returns : goal.returns
returns c =
    let walk = c.loop-seen in
    (walk.invariant.1, λ es n tells below known. walk_ends tells (walk.invariant.2 es n tells below known) c.loop-seen-test.false)
