-- A refusal, or the image that was drawn. Assumes nothing.
use Rattle.std.proofs.lemmas.Result.{err_from_is_err_and}
use Rattle.tries.proofs.Writing.{write_refused, write_range}
use Rattle.tries.proofs.write.Goals as goal

pub returns-in_err-written : goal.returns-in_err-written
returns-in_err-written c =
    let out = err_from_is_err_and c.from_residual.result c.from_residual.ensures.1 in
    rw (out.1, out.2)
    (write_refused _ _ _ _ _ _ c.if-tape-gt-LONGEST.false c.if-initial-gt-SIZE.false c.if-image-ne-SIZE.false c.in_err-written.ensures.0)

pub returns : goal.returns
returns c =
    write_range _ _ _ _ _ c.args.image.now c.if-tape-gt-LONGEST.false c.if-initial-gt-SIZE.false c.if-image-ne-SIZE.false
    c.in_ok-written.ensures.0 _ c.draw_all.ensures.1 c.copy_from_slice.ensures.after
