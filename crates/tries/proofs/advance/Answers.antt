-- A record of an expression, a refusal, or bytes that are put. Assumes nothing.
use native.Mathlib.Omega.{arith}
use mir.Syntax.{w64}
use mir.Facts.{to_z_pos}
use Rattle.std.proofs.lemmas.Result.{err_from_is_err_and}
use Rattle.tries.proofs.Advancing.{handed, over_inner, over_refused, over_short, over_put}
use Rattle.tries.proofs.advance.Goals as goal

pub returns-then-is_inner : goal.returns-then-is_inner
returns-then-is_inner c =
    over_inner _ _ _ _ _ _ _ _ c.is_inner.ensures c.if-is_inner.true

pub returns-in_err-code : goal.returns-in_err-code
returns-in_err-code c =
    let out = err_from_is_err_and c.from_residual.result c.from_residual.ensures.1 in
    rw (out.1, out.2)
    (over_refused (handed c.is_inner.ensures c.if-is_inner.false c.own_number-own.ensures (to_z_pos w64 (omega (arith, c.requires.0)))
    c.value_of-value.ensures) _ _ _ _ c.in_err-code.ensures)

pub put-requires : goal.put-requires
put-requires c = (
  c.requires.0,
  c.requires.1,
  over_short (handed c.is_inner.ensures c.if-is_inner.false c.own_number-own.ensures (to_z_pos w64 (omega (arith, c.requires.0)))
      c.value_of-value.ensures) _ _ c.in_ok-code.ensures,
)

pub returns : goal.returns
returns c =
    over_put (handed c.is_inner.ensures c.if-is_inner.false c.own_number-own.ensures (to_z_pos w64 (omega (arith, c.requires.0)))
    c.value_of-value.ensures) _ _ _ c.in_ok-code.ensures c.u8_at.ensures c.put.ensures
