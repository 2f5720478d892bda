-- The part is what `find` found. Assumes nothing.
use lib.ListN.{length}
use mathlib.Core.Path.{◌≡◌, sym, ap, ◌∙◌}
use native.Mathlib.Nat.{add-sub_cancel_left}
use native.Mathlib.Omega.{arith}
use Rattle.refusals.specs.AnswerAt.{Fine, mapped}
use Rattle.refusals.specs.Says.{says_at}
use Rattle.tape.specs.Record.{record_at}
use Rattle.tape.proofs.Records as records
use Rattle.tape.proofs.record.Goals as goal

-- what `find` told where a whole record stands
told : (c : goal.In-Ok)
    → let args = c.args in
    Fine c.in-Ok.n ≡ mapped length (record_at args.tape.now args.at)
told c = sym (ap says_at c.in-Ok.is) ∙ c.find.ensures

pub overflow_add-result : goal.overflow_add-result
overflow_add-result c = omega (arith, (records.found_whole _ _ _ (told c)).0)

pub slice_bounds-result-end : goal.slice_bounds-result-end
slice_bounds-result-end c = omega (arith, (records.found_whole _ _ _ (told c)).0)

pub returns-in-Ok : goal.returns-in-Ok
returns-in-Ok c = simp (add-sub_cancel_left) (records.found_whole _ _ _ (sym (ap says_at c.in-Ok.is) ∙ c.find.ensures)).1
