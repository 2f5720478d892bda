-- Two different constructors are never equal. `never (cc)` closes a case that cannot be: from an equation of two of them in
-- scope `cc` proves that 0 is 1. Assumes nothing.
use mathlib.Core.Path.{◌≡◌}
use Prim.Native.Nat.{ℕ}
use native.Mathlib.Omega.{arith}

pub never : {A : Type 0} → ◌≡◌ {A = ℕ} 0 1 → A
never e = absurd (omega arith)
