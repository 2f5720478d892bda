-- Three words behind those of all edges. Assumes nothing.
use Rattle.names.proofs.Records.{put_edge}
use native.Mathlib.Omega.{arith}
use Rattle.names.proofs.put.Goals as goal

pub returns-then-declares : goal.returns-then-declares
returns-then-declares c =
    put_edge _ _ _ c.u8_at.ensures c.declares.ensures c.if-declares.true c.u16_at.ensures (omega arith)
