-- What the search leaves. Assumes nothing.
use mathlib.Core.Path.{refl, sym, ap, ◌∙◌}
use Rattle.form.specs.Form.{declares}
use Rattle.form.specs.Statements.{is_last}
use Rattle.form.proofs.Said.{names_more}
use Rattle.form.proofs.Statements.{statements_past, statements_last}
use Rattle.number_list.proofs.Gathering.{gathering_start, gathering_done, gathering_on}
use Rattle.number_list.proofs.gather.Goals as goal

pub loop-at-init : goal.loop-at-init
loop-at-init c = gathering_start _ _ _

pub returns-then-is_last : goal.returns-then-is_last
returns-then-is_last c =
    gathering_done _ _ _ c.loop-at.invariant
    (statements_last _ _ (ap is_last (sym c.record-rec.ensures) ∙ sym c.is_last.ensures ∙ c.if-is_last.true))

pub loop-at-preserved : goal.loop-at-preserved
loop-at-preserved c =
    gathering_on _ _ _ c.loop-at.invariant c.record-rec.ensures (sym c.is_last.ensures ∙ c.if-is_last.false) _ c.u8_at-kind.ensures refl
    c.listed-count.ensures.1 c.listed-count.ensures.0 (names_more (declares c.u8_at-kind.result) c.names_in-names.ensures _)

pub returns : goal.returns
returns c = gathering_done _ _ _ c.loop-at.invariant (statements_past _ _ c.loop-at-test.false)
