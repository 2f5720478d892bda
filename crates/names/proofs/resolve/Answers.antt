-- What the search leaves. Assumes nothing.
use mathlib.Core.Path.{refl, sym, ◌∙◌}
use Rattle.names.proofs.Resolving.{resolve_start, resolve_last, resolve_on, resolve_past}
use Rattle.names.proofs.resolve.Goals as goal

pub loop-at-init : goal.loop-at-init
loop-at-init c = resolve_start _ _ _ _ c.requires.0 c.requires.1 refl

pub returns-then-is_last : goal.returns-then-is_last
returns-then-is_last c =
    let last = sym c.is_last.ensures ∙ c.if-is_last.true in
    resolve_last c.loop-at.invariant c.record-rec.ensures last c.loop-at-test.true

pub loop-at-preserved : goal.loop-at-preserved
loop-at-preserved c =
    let not_last = sym c.is_last.ensures ∙ c.if-is_last.false in
    resolve_on c.loop-at.invariant c.record-rec.ensures not_last c.loop-at-test.true c.note.ensures
    c.behind-walk.ensures

pub returns : goal.returns
returns c = resolve_past c.loop-at.invariant c.loop-at-test.false
