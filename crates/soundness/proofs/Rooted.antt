-- Chains that end at the root, scope by scope: what is left behind the first scope is the chain of its parent. Assumes nothing.
use Rattle.std.specs.Prelude.{Option, None, Some}
use mathlib.Core.Bool.{true}
use mathlib.Core.Path.{◌≡◌, refl, sym, ap, subst}
use mathlib.Core.List.{List, [], ◌∷◌}
use Prim.Native.Nat.{ℕ, zero, suc, ◌<◌}
use native.Mathlib.Omega.{arith}
use lib.ListN.{length}
use borrow.Author.Tests.{ne_eqb}
use Rattle.refusals.proofs.Never.{never}
use Rattle.edges.specs.declared.Edge.{Edge}
use Rattle.edges.specs.Edges.{parent_of, has, chain_of, chain}
use Rattle.soundness.specs.Sound.{rooted}

-- ---- chains

-- a number that stands behind the first
has_rest : (x y : ℕ) (ys : List ℕ) → has x (y ∷ ys) ≡ true → (y ≡ x → ⊥) → has x ys ≡ true
unfolding has
has_rest x y ys h n = rw (ne_eqb _ _ n) at h

module _ (es : List Edge) (top : parent_of es 0 ≡ None) where
  -- a node with a parent is not the root
  below_root : (s : ℕ) {p : ℕ} → parent_of es s ≡ Some p → s ≡ 0 → ⊥
  below_root s {p} e z = let at-root : parent_of es 0 ≡ Some p = subst (λ (j : ℕ). parent_of es j ≡ Some p) z e in never (cc)

  -- a chain with the root in it ends there, so it is the same where more nodes are allowed
  stable : (k s : ℕ) → has 0 (chain_of es k s) ≡ true → chain_of es (suc k) s ≡ chain_of es k s
  unfolding chain_of has
  stable zero s r = never (cc)
  stable (suc k) s r = go (λ p. stable k p) (parent_of es s) refl
    where
      go : ((p : ℕ) → has 0 (chain_of es k p) ≡ true → chain_of es (suc k) p ≡ chain_of es k p) → (f : Option ℕ)
          → parent_of es s ≡ f → chain_of es (suc (suc k)) s ≡ chain_of es (suc k) s
      go ih None e = rw e
      go ih (Some p) e = rw e (ap (λ (l : List ℕ). s ∷ l) (ih p (has_rest 0 s (chain_of es k p) (rw e at r) (below_root s e))))

  -- the chain of a parent is the rest of the chain
  pub chain_up : (k s : ℕ) {p : ℕ} → has 0 (chain_of es k s) ≡ true → parent_of es s ≡ Some p
      → (has 0 (chain_of es k p) ≡ true) × (chain_of es k s ≡ s ∷ chain_of es k p)
  unfolding chain_of has
  chain_up zero s r e = never (cc)
  chain_up (suc k) s {p} r e =
      let h = has_rest 0 s (chain_of es k p) (rw e at r) (below_root s e) in
      let same = stable k p h in
      (subst (λ (l : List ℕ). has 0 l ≡ true) (sym same) h, rw e (ap (λ (l : List ℕ). s ∷ l) (sym same)))

-- the chain of a node without a parent is that node
chain_top : (es : List Edge) (k s : ℕ) → has 0 (chain_of es k s) ≡ true → parent_of es s ≡ None → chain_of es k s ≡ s ∷ []
unfolding chain_of has
chain_top es zero s r e = never (cc)
chain_top es (suc k) s r e = rw e

-- ---- the first scope of a chain

module _ (es : List Edge) (s : ℕ) (r : rooted es s ≡ true) where
  -- the chain begins with its scope
  pub chain_first : (l : List ℕ) × (chain es s ≡ s ∷ l)
  unfolding chain chain_of
  chain_first = (_, refl)

  pub chain_alone : parent_of es s ≡ None → chain es s ≡ s ∷ []
  unfolding rooted chain
  chain_alone e = chain_top es 1024 s r e

  pub chain_rest : {p : ℕ} → parent_of es 0 ≡ None → parent_of es s ≡ Some p → (rooted es p ≡ true) × (chain es s ≡ s ∷ chain es p)
  unfolding rooted chain
  chain_rest top e = chain_up es top 1024 s r e

  pub chain_falls : {p : ℕ} → parent_of es 0 ≡ None → parent_of es s ≡ Some p → length (chain es p) < length (chain es s)
  chain_falls top e = omega (arith, ap (λ (l : List ℕ). length l) (chain_rest top e).1)
