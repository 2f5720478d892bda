-- The places for notes, then the form, then the names. Assumes nothing.
use Rattle.std.proofs.lemmas.Result.{err_from_is_err_and}
use Rattle.names.proofs.Calls.{wrong_places, bad_form, good_form, leaves_fault, leaves_same}
use Rattle.names.proofs.declare.Goals as goal

pub returns-then-nodes-ne-LONGEST : goal.returns-then-nodes-ne-LONGEST
returns-then-nodes-ne-LONGEST c = rw c.at.ensures (leaves_fault _ _ _ (wrong_places _ _ c.if-nodes-ne-LONGEST.true))

pub returns-in_err-form : goal.returns-in_err-form
returns-in_err-form c =
    let out = err_from_is_err_and c.from_residual.result c.from_residual.ensures.1 in
    rw (out.1, out.2) (leaves_fault _ _ _ (bad_form _ _ c.if-nodes-ne-LONGEST.false c.in_err-form.ensures))

pub returns : goal.returns
returns c = leaves_same _ _ _ _ (good_form _ _ c.if-nodes-ne-LONGEST.false c.in_ok-form.ensures) c.declare_sound.ensures
