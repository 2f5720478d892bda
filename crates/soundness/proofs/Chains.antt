-- Climbing from node to parent: the way to the root has one length, no node twice, and is what `rooted` tests.
-- Assumes nothing.
use Rattle.std.specs.Prelude.{Option, None, Some}
use mathlib.Core.Path.{◌≡◌, refl, sym, ap, ◌∙◌, subst}
use mathlib.Core.Logic.{◌⊎◌, ⊎_elim}
use mathlib.Core.Bool.{Bool, true, false, ◌&&◌, and-eq-true_iff, or-true}
use mathlib.Core.List.{List, [], ◌∷◌}
use Prim.Native.Nat.{ℕ, zero, suc, ◌+◌, ◌<◌, ◌≤◌}
use native.Mathlib.Nat.{zero-add, suc-add, eq-or-lt_of_le, le_of_suc-le-suc, not-suc-le-zero}
use native.Mathlib.Omega.{arith}
use lib.Dec.{eqb, ltb}
use lib.ListN.{length}
use borrow.Author.Tests.{eq-eqb, ne_eqb, eqb-true, eqb-false, ltb-true, lt-ltb}
use Rattle.refusals.proofs.Never.{never}
use Rattle.edges.specs.declared.Edge.{Edge}
use Rattle.edges.specs.Edges.{child_of, parent_of, has, chain_of, chain}
use Rattle.soundness.specs.Sound.{fits, all_fit, rooted}

-- ---- edges that fit

-- what the test says of the first edge, and of the others
pub fit_split : (n : ℕ) (e : Edge) (es : List Edge) → all_fit n (e ∷ es) ≡ true
    → (e.from < n) × (e.to < n) × (0 < e.to) × (0 < e.id) × (all_fit n es ≡ true)
unfolding all_fit fits
fit_split n e es ok =
    let a = (and-eq-true_iff (fits n e) (all_fit n es)).0 ok in
    let b = (and-eq-true_iff (ltb e.from n && ltb e.to n && ltb 0 e.to) (ltb 0 e.id)).0 a.0 in
    let c = (and-eq-true_iff (ltb e.from n && ltb e.to n) (ltb 0 e.to)).0 b.0 in
    let d = (and-eq-true_iff (ltb e.from n) (ltb e.to n)).0 c.0 in
    (ltb-true _ _ d.0, ltb-true _ _ d.1, ltb-true _ _ c.1, ltb-true _ _ b.1, a.1)

pub fit_is : (n : ℕ) (e : Edge) → e.from < n → e.to < n → 0 < e.to → 0 < e.id → fits n e ≡ true
unfolding fits
fit_is n e a b c d = rw (lt-ltb e.from n a, lt-ltb e.to n b, lt-ltb 0 e.to c, lt-ltb 0 e.id d)

-- edges that fit, fit more nodes
pub fit_more : (n m : ℕ) (es : List Edge) → n ≤ m → all_fit n es ≡ true → all_fit m es ≡ true
unfolding all_fit
fit_more n m [] l ok = refl
fit_more n m (e ∷ es) l ok =
    let a = fit_split n e es ok in
    (and-eq-true_iff (fits m e) (all_fit m es)).1 (fit_is m e (omega arith) (omega arith) a.2 a.3, fit_more n m es l a.4)

-- no edge leads into the root
pub fit_top : (es : List Edge) (n : ℕ) → all_fit n es ≡ true → parent_of es 0 ≡ None
unfolding parent_of
fit_top [] n ok = refl
fit_top (e ∷ es) n ok =
    let a = fit_split n e es ok in
    rw (ne_eqb e.to 0 (λ q. omega arith)) (fit_top es n a.4)

pub fit_parent : (es : List Edge) (n s p : ℕ) → all_fit n es ≡ true → parent_of es s ≡ Some p → p < n
unfolding parent_of
fit_parent [] n s p ok e = never (cc)
fit_parent (d ∷ es) n s p ok e = go (fit_parent es n s p (fit_split n d es ok).4) (eqb d.to s) refl
  where
    go : (parent_of es s ≡ Some p → p < n) → (b : Bool) → eqb d.to s ≡ b → p < n
    go ih true q =
        let here : Some d.from ≡ Some p = rw q at e in
        let one : d.from ≡ p = cc in
        omega (arith, (fit_split n d es ok).0)
    go ih false q = ih (rw q at e)

-- a child is a node
pub fit_child : (es : List Edge) (n s x c : ℕ) → all_fit n es ≡ true → child_of es s x ≡ Some c → c < n
unfolding child_of
fit_child [] n s x c ok e = never (cc)
fit_child (d ∷ es) n s x c ok e = go (fit_child es n s x c (fit_split n d es ok).4) (eqb d.from s && eqb d.id x) refl
  where
    go : (child_of es s x ≡ Some c → c < n) → (b : Bool) → (eqb d.from s && eqb d.id x) ≡ b → c < n
    go ih true q =
        let here : Some d.to ≡ Some c = rw q at e in
        let one : d.to ≡ c = cc in
        omega (arith, (fit_split n d es ok).1)
    go ih false q = ih (rw q at e)

-- ---- steps up

-- j steps up from s end at t
abbrev pub Up : List Edge → ℕ → ℕ → ℕ → Type 0
Up es zero s t = s ≡ t
Up es (suc j) s t = (p : ℕ) × (parent_of es s ≡ Some p) × Up es j p t

pub up_then : (es : List Edge) (i j s t u : ℕ) → Up es i s t → Up es j t u → Up es (i + j) s u
up_then es zero j s t u a b =
    subst (λ (k : ℕ). Up es k s u) (sym (zero-add j))
    (subst (λ (v : ℕ). Up es j v u) (sym a) b)
up_then es (suc i) j s t u a b =
    subst (λ (k : ℕ). Up es k s u) (sym (suc-add i j))
    (a.0, a.1, up_then es i j a.0 t u a.2 b)

-- the way up ends at the root
up_within : (es : List Edge) (n i j s t : ℕ) → all_fit n es ≡ true → Up es i s 0 → Up es j s t → j ≤ i
up_within es n i zero s t ok a b = omega arith
up_within es n zero (suc j) s t ok a b =
    let top = fit_top es n ok in
    let here = ap (parent_of es) a in
    let next = b.1 in
    never (cc)
up_within es n (suc i) (suc j) s t ok a b =
    let first = a.1 in
    let second = b.1 in
    let one : b.0 ≡ a.0 = cc in
    omega (arith, up_within es n i j a.0 t ok a.2 (subst (λ (p : ℕ). Up es j p t) one b.2))

-- the way to the root has one length
pub up_once : (es : List Edge) (n i j s : ℕ) → all_fit n es ≡ true → Up es i s 0 → Up es j s 0 → i ≡ j
up_once es n i j s ok a b = omega (arith, up_within es n i j s 0 ok a b, up_within es n j i s 0 ok b a)

-- ---- different numbers below n are at most n

Unlike : ℕ → List ℕ → Type 0
Unlike z [] = Unit {0}
Unlike z (x ∷ xs) = (z ≡ x → ⊥) × Unlike z xs

Different : List ℕ → Type 0
Different [] = Unit {0}
Different (x ∷ xs) = Unlike x xs × Different xs

Below : ℕ → List ℕ → Type 0
Below n [] = Unit {0}
Below n (x ∷ xs) = (x < n) × Below n xs

below_less : (n : ℕ) (xs : List ℕ) → Unlike n xs → Below (suc n) xs → Below n xs
unfolding Unlike Below
below_less n [] q b = tt
below_less n (x ∷ xs) q b = (omega (arith, q.0), below_less n xs q.1 b.1)

-- different numbers, without the greatest that may be among them
record Less (n : ℕ) (xs : List ℕ) : Type 0 where
  rest : List ℕ
  different : Different rest
  below : Below n rest
  long : length xs ≤ suc (length rest)
  kept : (z : ℕ) → Unlike z xs → Unlike z rest

less : (n : ℕ) (xs : List ℕ) → Different xs → Below (suc n) xs → Less n xs
unfolding Unlike Different Below
less n [] d b = record { rest = []; different = tt; below = tt; long = omega arith; kept = λ z q. tt }
less n (x ∷ xs) d b = go (less n xs d.1 b.1) (eq-or-lt_of_le (le_of_suc-le-suc b.0))
  where
    go : Less n xs → (x ≡ n) ⊎ (x < n) → Less n (x ∷ xs)
    go r s = ⊎_elim
        (λ e. record {
          rest = xs;
          different = d.1;
          below = below_less n xs (subst (λ (j : ℕ). Unlike j xs) e d.0) b.1;
          long = omega arith;
          kept = λ z q. q.1;
        })
        (λ l. record {
          rest = x ∷ r.rest;
          different = (r.kept x d.0, r.different);
          below = (l, r.below);
          long = omega (arith, r.long);
          kept = λ z q. (q.0, r.kept z q.1);
        })
        s

pigeonhole : (n : ℕ) (xs : List ℕ) → Different xs → Below n xs → length xs ≤ n
unfolding Below
pigeonhole zero [] d b = omega arith
pigeonhole zero (x ∷ xs) d b = absurd (not-suc-le-zero b.0)
pigeonhole (suc n) xs d b = let r = less n xs d b in omega (arith, r.long, pigeonhole n r.rest r.different r.below)

-- ---- the nodes of a way to the root

abbrev nodes : (es : List Edge) (j s : ℕ) → Up es j s 0 → List ℕ
nodes es zero s w = s ∷ []
nodes es (suc j) s w = s ∷ nodes es j w.0 w.2

length_nodes : (es : List Edge) (j s : ℕ) (w : Up es j s 0) → length (nodes es j s w) ≡ suc j
length_nodes es zero s w = refl
length_nodes es (suc j) s w = ap suc (length_nodes es j w.0 w.2)

module _ (es : List Edge) (n : ℕ) (ok : all_fit n es ≡ true) where
  -- a node that is farther from the root is not among them
  farther : (j s : ℕ) (w : Up es j s 0) (k z : ℕ) → Up es k z 0 → j < k → Unlike z (nodes es j s w)
  unfolding Unlike
  farther zero s w k z far l = (λ e. omega (arith, up_once es n k zero s ok (subst (λ (y : ℕ). Up es k y 0) e far) w), tt)
  farther (suc j) s w k z far l = (
    λ e. omega (arith, up_once es n k (suc j) s ok (subst (λ (y : ℕ). Up es k y 0) e far) w),
    farther j w.0 w.2 k z far (omega arith),
  )

  different : (j s : ℕ) (w : Up es j s 0) → Different (nodes es j s w)
  unfolding Unlike Different
  different zero s w = (tt, tt)
  different (suc j) s w = (farther j w.0 w.2 (suc j) s w (omega arith), different j w.0 w.2)

  below : (j s : ℕ) (w : Up es j s 0) → s < n → Below n (nodes es j s w)
  unfolding Below
  below zero s w l = (l, tt)
  below (suc j) s w l = (l, below j w.0 w.2 (fit_parent es n s w.0 ok w.1))

  -- the way is shorter than there are nodes
  pub up_short : (j s : ℕ) → Up es j s 0 → s < n → j < n
  up_short j s w l = omega (arith, length_nodes es j s w, pigeonhole n (nodes es j s w) (different j s w) (below j s w l))

-- ---- what `has` finds on a chain

pub has_up : (es : List Edge) (k s t : ℕ) → has t (chain_of es k s) ≡ true → (j : ℕ) × Up es j s t
unfolding has chain_of
has_up es zero s t r = never (cc)
has_up es (suc k) s t r = go (has_up es k) (eqb s t) refl (parent_of es s) refl
  where
    go : ((p u : ℕ) → has u (chain_of es k p) ≡ true → (j : ℕ) × Up es j p u)
        → (b : Bool) → eqb s t ≡ b → (f : Option ℕ) → parent_of es s ≡ f → (j : ℕ) × Up es j s t
    go ih true e f q = (0, eqb-true s t e)
    go ih false e None q = let nowhere : false ≡ true = rw (e, q) at r in never (cc)
    go ih false e (Some p) q = let w = ih p t (rw (e, q) at r) in (suc w.0, (p, q, w.1))

up_has : (es : List Edge) (k j s t : ℕ) → j < k → Up es j s t → has t (chain_of es k s) ≡ true
unfolding has chain_of
up_has es zero j s t l w = absurd (not-suc-le-zero l)
up_has es (suc k) zero s t l w = rw (eq-eqb s t w)
up_has es (suc k) (suc j) s t l w = rw (w.1, up_has es k j w.0 t (omega arith) w.2, or-true (eqb s t))

pub rooted_up : (es : List Edge) (s : ℕ) → rooted es s ≡ true → (j : ℕ) × Up es j s 0
unfolding rooted chain
rooted_up es s r = has_up es 1024 s 0 r

pub up_rooted : (es : List Edge) (n j s : ℕ) → all_fit n es ≡ true → n ≤ 1024 → s < n → Up es j s 0 → rooted es s ≡ true
unfolding rooted chain
up_rooted es n j s ok h l w = up_has es 1024 j s 0 (omega (arith, up_short es n ok j s w l)) w

-- ---- a node that is not on the way

-- t is not on the way up from s
abbrev pub Off : List Edge → ℕ → ℕ → Type 0
Off es s t = (j : ℕ) → Up es j s t → ⊥

-- the test of a chain sees all of the way
pub has_off : (es : List Edge) (n i s t : ℕ) → all_fit n es ≡ true → n ≤ 1024 → s < n → Up es i s 0
    → has t (chain es s) ≡ false → Off es s t
unfolding chain
has_off es n i s t ok h l w off j v =
    let short : j < 1024 = omega (arith, up_short es n ok i s w l, up_within es n i j s t ok w v) in
    let on = up_has es 1024 j s t short v in
    never (cc)

-- a node that is yet to be made is on no way
pub new_off : (es : List Edge) (n s : ℕ) → all_fit n es ≡ true → s < n → Off es s n
new_off es n s ok l zero w = omega arith
new_off es n s ok l (suc j) w = new_off es n w.0 ok (fit_parent es n s w.0 ok w.1) j w.2

-- ---- ways beside one edge more

module _ (e : Edge) (es : List Edge) where
  pub parent_new : (s : ℕ) → e.to ≡ s → parent_of (e ∷ es) s ≡ Some e.from
  unfolding parent_of
  parent_new s h = rw (eq-eqb e.to s h)

  parent_old : (s : ℕ) → (e.to ≡ s → ⊥) → parent_of (e ∷ es) s ≡ parent_of es s
  unfolding parent_of
  parent_old s h = rw (ne_eqb e.to s h)

  -- a way that does not meet the node that the edge leads to is as before
  pub up_old : (j s t : ℕ) → Off es s e.to → Up es j s t → Up (e ∷ es) j s t
  up_old zero s t off w = w
  up_old (suc j) s t off w = (
    w.0,
    parent_old s (λ q. off zero (sym q)) ∙ w.1,
    up_old j w.0 t (λ i v. off (suc i) (w.0, w.1, v)) w.2,
  )

  pub up_before : (j s t : ℕ) → Off es s e.to → Up (e ∷ es) j s t → Up es j s t
  up_before zero s t off w = w
  up_before (suc j) s t off w =
      let first = sym (parent_old s (λ q. off zero (sym q))) ∙ w.1 in
      (w.0, first, up_before j w.0 t (λ i v. off (suc i) (w.0, first, v)) w.2)

  -- a node that is not on the way from where the edge leaves is not on the way by it either
  pub off_new : (m : ℕ) → Off es e.from e.to → Off es e.from m → (e.to ≡ m → ⊥) → Off (e ∷ es) e.to m
  off_new m off old other zero w = other w
  off_new m off old other (suc j) w =
      let new = parent_new e.to refl in
      let here = w.1 in
      let one : w.0 ≡ e.from = cc in
      old j (up_before j e.from m off (subst (λ (p : ℕ). Up (e ∷ es) j p m) one w.2))

  -- a way to the root that meets the node that the edge leads to goes on by it
  pub up_by : (k : ℕ) → Up (e ∷ es) k e.from 0 → (j s : ℕ) → Up es j s 0 → (i : ℕ) × Up (e ∷ es) i s 0
  up_by k v zero s w = (0, w)
  up_by k v (suc j) s w = go (up_by k v j w.0 w.2) (eqb e.to s) refl
    where
      go : ((i : ℕ) × Up (e ∷ es) i w.0 0) → (b : Bool) → eqb e.to s ≡ b → (i : ℕ) × Up (e ∷ es) i s 0
      go ih true q = (suc k, (e.from, parent_new s (eqb-true _ _ q), v))
      go ih false q = (suc ih.0, (w.0, parent_old s (eqb-false _ _ q) ∙ w.1, ih.1))
