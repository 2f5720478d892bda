-- What the search leaves. Assumes nothing.
use native.Mathlib.Omega.{arith}
use Rattle.source_map.proofs.Laws.{shape}
use Rattle.source_map.proofs.Loops.{move_next, move_all}
use Rattle.source_map.proofs.Words.{holding_none}
use Rattle.source_map.proofs.move_all.Goals as goal

pub loop-i-init : goal.loop-i-init
loop-i-init c = holding_none _

pub loop-i-preserved : goal.loop-i-preserved
loop-i-preserved c =
    let s = shape c.args.map.now c.requires in
    move_next _ _ _ _ _ (omega arith) c.loop-i.invariant c.read_entry-offset.ensures c.renamed.ensures c.write_entry.ensures

pub returns : goal.returns
returns c = move_all _ _ _ _ _ c.requires (omega arith) (omega arith) c.loop-i.invariant
