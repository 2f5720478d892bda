-- The next turn goes on behind one mark more. Assumes nothing.
use mathlib.Core.Path.{sym, ap, ◌∙◌}
use Prim.Native.Nat.{◌+◌, ◌-◌}
use lib.ListN.{drop}
use Rattle.script.specs.Parts.{from}
use Rattle.script.proofs.Scans.{next_mark}
use Rattle.script.proofs.behind.Goals as goal

pub loop-i-preserved : goal.loop-i-preserved
loop-i-preserved c =
    let so_far = c.loop-i in
    let here = drop so_far.at c.args.text.now in (
      c.next-at.ensures.0,
      ap (from c.args.mark (c.args.count - (so_far.i + 1))) c.next-at.ensures.1
          ∙ sym (next_mark c.args.mark here c.args.count so_far.i c.loop-i-test.true)
          ∙ so_far.invariant.1,
    )
