-- `int64::doubled` meets its contract. Invariant: after i turns, w times 2 ^ i modulo 2 ^ 64. Assumes nothing.
use Rattle.std.proofs.Common.{◌≡◌, ◌*◌, ◌%◌, ◌^◌}
use Rattle.int64.proofs.doubled.Given as goal

abbrev pub invariant-loop-i : goal.invariant-loop-i
invariant-loop-i l = l.v ≡ (l.w * 2 ^ l.i) % 2 ^ 64
