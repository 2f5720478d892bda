-- What the search leaves. Assumes nothing.
use mathlib.Core.Path.{◌≡◌, ap}
use Prim.Native.Nat.{ℕ, ◌-◌}
use native.Mathlib.Omega.{arith}
use Rattle.page.specs.Page.{repeated, bytes_in}
use Rattle.page.proofs.Laying.{goes_on, all_laid}
use Rattle.page.proofs.Rests.{next_time}
use Rattle.script_tapes.proofs.put_times.Goals as goal

pub loop-i-preserved : goal.loop-i-preserved
loop-i-preserved c =
    goes_on _ _ _ _ c.loop-i.invariant _ _ (next_time _ _ _ c.loop-i-test.true) _ _ c.put_hex-at.ensures

pub returns : goal.returns
returns c =
    let none : c.args.times - c.loop-i.i ≡ 0 = omega arith in
    all_laid _ _ _ _ c.loop-i.invariant (ap (λ (n : ℕ). repeated n (bytes_in c.args.text.now)) none)
