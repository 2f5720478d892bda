-- What the search leaves. Assumes nothing.
use mathlib.Core.Path.{sym, ◌∙◌}
use native.Mathlib.Omega.{arith}
use Rattle.form.specs.Form.{declares}
use Rattle.form.proofs.Said.{names_one, names_more}
use Rattle.form.proofs.Statements.{not_empty}
use Rattle.evaluator.proofs.Meanings.{ends}
use Rattle.passes.proofs.Counting.{counted_start, counted_past, counted_last, counted_on}
use Rattle.passes.proofs.count.Goals as goal

pub loop-at-init : goal.loop-at-init
loop-at-init c = counted_start

pub returns-then-is_last : goal.returns-then-is_last
returns-then-is_last c =
    counted_last c.loop-at.invariant c.record-rec.ensures c.is_last.ensures c.if-is_last.true

pub overflow_add-names : goal.overflow_add-names
overflow_add-names c =
    omega (arith, c.loop-at-test.true, c.loop-at.invariant.few, names_one (declares c.u8_at.result) c.names_in-names.ensures)

pub overflow_add-at : goal.overflow_add-at
overflow_add-at c =
    omega (arith, ends _ _ c.record-rec.ensures (omega (arith, c.loop-at-test.true)) (omega arith))

pub loop-at-smaller : goal.loop-at-smaller
loop-at-smaller c =
    omega (arith, not_empty c.record-rec.result.now (sym c.is_last.ensures ∙ c.if-is_last.false), c.loop-at-test.true)

pub loop-at-preserved : goal.loop-at-preserved
loop-at-preserved c =
    counted_on c.loop-at.invariant c.record-rec.ensures c.is_last.ensures c.if-is_last.false
    c.u8_at.ensures (names_more (declares c.u8_at.result) c.names_in-names.ensures _)

pub returns : goal.returns
returns c = counted_past c.loop-at.invariant c.loop-at-test.false
