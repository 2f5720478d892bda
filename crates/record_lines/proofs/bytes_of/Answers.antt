-- A record of an expression has no bytes; a statement has those of its try, and none where it is refused. Assumes nothing.
use native.Mathlib.Omega.{arith}
use mir.Syntax.{w64}
use mir.Facts.{to_z_pos}
use Rattle.evaluator.specs.Says.{says_value}
use Rattle.record_lines.proofs.Records.{bytes_inner, bytes_refused, bytes_fine}
use Rattle.record_lines.proofs.bytes_of.Goals as goal

pub returns-then-is_inner : goal.returns-then-is_inner
returns-then-is_inner c =
    let args = c.args in
    bytes_inner args.place args.at args.rec.now (says_value args.value) c.is_inner.ensures c.if-is_inner.true
    c.no_bytes.ensures

pub returns-in-Err : goal.returns-in-Err
returns-in-Err c =
    let args = c.args in
    bytes_refused args.place args.at args.rec.now (says_value args.value) c.is_inner.ensures
    c.if-is_inner.false (to_z_pos w64 (omega (arith, c.requires))) c.plain.ensures c.in-Err.ensures
    c.no_bytes-in-Err.ensures

pub returns-in-Ok : goal.returns-in-Ok
returns-in-Ok c =
    let args = c.args in
    bytes_fine args.place args.at args.rec.now (says_value args.value) c.is_inner.ensures
    c.if-is_inner.false (to_z_pos w64 (omega (arith, c.requires))) c.plain.ensures c.in-Ok.ensures
