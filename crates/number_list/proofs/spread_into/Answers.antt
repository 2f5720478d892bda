-- What the search leaves. Assumes nothing.
use mathlib.Core.Path.{sym, ap, ◌∙◌}
use Rattle.form.specs.Statements.{is_last}
use Rattle.form.proofs.Statements.{statements_past, statements_last}
use Rattle.number_list.proofs.Spreading.{spreading_start, spreading_done, spreading_on}
use Rattle.number_list.proofs.spread_into.Goals as goal

pub loop-at-init : goal.loop-at-init
loop-at-init c = spreading_start _ _ c.requires

pub returns-then-is_last : goal.returns-then-is_last
returns-then-is_last c =
    spreading_done _ _ c.loop-at.invariant
    (statements_last _ _ (ap is_last (sym c.record-rec.ensures) ∙ sym c.is_last.ensures ∙ c.if-is_last.true))

pub loop-at-preserved : goal.loop-at-preserved
loop-at-preserved c =
    spreading_on _ _ c.loop-at.invariant c.record-rec.ensures (sym c.is_last.ensures ∙ c.if-is_last.false) _ c.u8_at-kind.ensures
    c.valued-count.ensures.1 c.valued-count.ensures.0 c.names_in-names.ensures

pub returns : goal.returns
returns c = spreading_done _ _ c.loop-at.invariant (statements_past _ _ c.loop-at-test.false)
