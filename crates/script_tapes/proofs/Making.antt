-- Labels that are laid one behind the other. Assumes nothing.
use mathlib.Core.List.{[], ◌++◌}
use mathlib.Core.Path.{◌≡◌, ap, ◌∙◌}
use Prim.Native.Nat.{ℕ, suc, ◌+◌, ◌-◌, ◌≤◌, ◌<◌}
use native.Mathlib.Omega.{arith}
use Rattle.script_tapes.specs.Tapes.{label_of, labels_behind}

-- of the labels up to the last, the next one
pub next_label : (id last : ℕ) → 1 ≤ id → id ≤ last
    → labels_behind (id - 1) (last - (id - 1)) ≡ label_of id ++ labels_behind (id + 1 - 1) (last - (id + 1 - 1))
next_label id last some h =
    let more : last - (id - 1) ≡ suc (last - (id + 1 - 1)) = omega arith in
    let this : id - 1 + 1 ≡ id = omega arith in
    let next : id - 1 + 1 ≡ id + 1 - 1 = omega arith in
    ap (labels_behind (id - 1)) more ∙ (λ i. label_of (this i) ++ labels_behind (next i) (last - (id + 1 - 1)))

pub no_label : (id last : ℕ) → last < id → labels_behind (id - 1) (last - (id - 1)) ≡ []
no_label id last h = let e : last - (id - 1) ≡ 0 = omega arith in ap (labels_behind (id - 1)) e
