-- What the search leaves. Assumes nothing.
use mathlib.Core.Path.{sym}
use native.Mathlib.Omega.{arith}
use Rattle.source_map.specs.SourceMap.{entries, first_holding}
use Rattle.refusals.specs.Answer.{Done}
use Rattle.refusals.proofs.Pick.{denied, granted}
use Rattle.source_map.proofs.Laws.{no_map}
use Rattle.source_map.proofs.Loops.{bad_entry, looked_next, found_one, found_none}
use Rattle.source_map.proofs.address_to_offset.Goals as goal

pub returns-then-not-is_in_range : goal.returns-then-not-is_in_range
returns-then-not-is_in_range c =
    let m = c.args.map.now in
    sym (no_map m (Done (first_holding c.args.pc (entries m)))
    (bad_entry m _ (omega arith) c.read_entry-offset.ensures (denied c.is_in_range.ensures c.if-not-is_in_range.true)))

pub loop-i-preserved : goal.loop-i-preserved
loop-i-preserved c =
    looked_next _ _ _ _ _ _ (omega arith) (omega arith) c.loop-i.invariant c.read_entry-offset.ensures (granted c.is_in_range.ensures c.if-not-is_in_range.false) c.nearer-first.ensures

pub returns-then-first-count : goal.returns-then-first-count
returns-then-first-count c =
    found_one _ (granted c.has_shape.ensures c.if-not-has_shape.false) _ _ _ (omega arith) c.loop-i.invariant c.if-first-count.true c.read_entry.ensures

pub returns-else-first-count : goal.returns-else-first-count
returns-else-first-count c =
    found_none _ (granted c.has_shape.ensures c.if-not-has_shape.false) _ _ _ (omega arith) c.loop-i.invariant c.if-first-count.false
