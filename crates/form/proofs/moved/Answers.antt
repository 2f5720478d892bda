-- The changes, one after the other. Assumes nothing.
use native.Mathlib.Omega.{arith}
use Rattle.form.specs.Steps.{view}
use Rattle.form.proofs.Faults.{followed_few, after_is}
use Rattle.form.proofs.moved.Goals as goal

pub pushed_all-requires : goal.pushed_all-requires
pushed_all-requires c =
    let fit = c.popped.ensures.1 in
    let room = c.requires.room in
    let few = followed_few _ _ c.followers-n.ensures in
    (record { within = fit.within; size = fit.size }, few, omega (arith, c.popped.ensures.2, room))

pub returns : goal.returns
returns c =
    let s = c.args.s in
    let behind =
    after_is (view s) (view c.popped.result) _ _ _ _ _ _ _
    c.depth-d.ensures c.u8_at-kind.ensures c.u8_at.ensures c.followers-n.ensures
    c.popped.ensures.0 c.scopes_after.ensures c.pushed_all.ensures.0 in
    (behind, c.pushed_all.ensures.1)
