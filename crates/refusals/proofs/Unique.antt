-- A promise that is an equality allows one answer. `OneResult` and `One` are said of a function's own contract, the `Post` that
-- the prover reads from its source, so that they cannot drift from what the source promises.
-- Assumes nothing.
use mathlib.Core.Path.{◌≡◌, sym, ap, ◌∙◌}

-- of a contract's lifetimes, arguments, result and lent memory at exit, the last two allow one value of what `seen` sees of
-- them
abbrev pub One : {K : Type 0} {A R E S : K → Type 0} → ((k : K) → R k → E k → S k) → ((k : K) → A k → R k → E k → Type 0) → Type 0
One {K} {A} {R} {E} {S} seen P = (k : K) (a : A k) (x y : R k) (e f : E k) → P k a x e → P k a y f → seen k x e ≡ seen k y f

-- a contract allows one result
abbrev pub OneResult : {K : Type 0} {A R E : K → Type 0} → ((k : K) → A k → R k → E k → Type 0) → Type 0
OneResult {K} {A} {R} {E} P = One {K = K} {A = A} {R = R} {E = E} {S = R} (λ k x e. x) P

-- two results that equal one definition are equal
pub same : {A : Type 0} {x y z : A} → x ≡ z → y ≡ z → x ≡ y
same p q = p ∙ sym q

-- the same of an answer enum: what it says tells all its cases apart, since the case is read back from what it says
pub told_apart : {X Y : Type 0} (says : X → Y) (back : Y → X) → ((x : X) → back (says x) ≡ x) → {x y : X} {z : Y} → says x ≡ z → says y ≡ z → x ≡ y
told_apart says back h {x} {y} p q = sym (h x) ∙ ap back (same p q) ∙ h y

-- the same of two things at once, as a result and the memory at exit
pub and_also : {A B : Type 0} {x y : A} {u v : B} → x ≡ y → u ≡ v → ◌≡◌ {A = A × B} (x, u) (y, v)
and_also p q i = (p i, q i)
