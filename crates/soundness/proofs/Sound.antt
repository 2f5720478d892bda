-- What the test of a table keeps on its way: whether the edges fit, the list of parents, and what the walks up the chains mark.
-- Assumes nothing.
use Rattle.std.specs.Prelude.{Option, None, Some}
use mathlib.Core.Bool.{Bool, true, false, not, ◌&&◌, and-eq-true_iff, not-eq-not}
use mathlib.Core.Path.{◌≡◌, refl, sym, ap, ◌∙◌, subst}
use mathlib.Core.Logic.{◌⊎◌, inl, inr, ⊎_elim}
use mathlib.Core.List.{List, [], ◌∷◌}
use Prim.Native.Nat.{ℕ, zero, suc, ◌+◌, ◌-◌, ◌<◌, ◌≤◌}
use native.Mathlib.Nat.{eq-or-lt_of_le, le_of_suc-le-suc, not-suc-le-zero}
use native.Mathlib.Numerals.{add-one}
use native.Mathlib.Omega.{arith}
use lib.Dec.{eqb, leb, ltb}
use lib.ListN.{length, get_or, set, replicate, length-replicate}
use lib.Seq.{get_or-set_same, get_or-set_other}
use borrow.Author.Tests.{lt-ltb, leb-true, le-leb, eqb-true, eqb-false, ne_eqb}
use Rattle.refusals.proofs.Never.{never}
use Rattle.refusals.proofs.Pick.{granted, denied}
use Rattle.edges.specs.declared.Edge.{Edge}
use Rattle.edges.specs.Edges.{max_nodes, max_edges, found, parent_of, has, chain_of, chain, edge_at, edges_in}
use Rattle.soundness.specs.Sound.{fits, all_fit, all_below, rooted, sound_edges}
use Rattle.soundness.specs.Steps.{parent_plus1, Parents, Small, Tells, Known}
use Rattle.soundness.proofs.Chains.{fit_split, fit_top, fit_parent, Up, up_then, up_once, rooted_up, up_rooted}

-- ---- one edge

-- an id that is not 0 is above 0
pub not_zero : (x : ℕ) → not (eqb x 0) ≡ ltb 0 x
not_zero zero = refl
not_zero (suc x) = simp (ne_eqb (suc x) 0 (λ e. omega arith), lt-ltb 0 (suc x) (omega arith))

-- ---- all edges, from the last to the first

-- the last of i edges decides, or leaves the answer to those before it
module _ (links : List ℕ) (n : ℕ) {i : ℕ} {e : Edge} {r : Bool}
    (more : 0 < i) (is : e ≡ edge_at links (i - 1)) (told : r ≡ fits n e) where
  last_edge_lem : all_fit n (edges_in links i) ≡ r && all_fit n (edges_in links (i - 1))
  unfolding edges_in all_fit
  last_edge_lem =
      let one : i ≡ suc (i - 1) = omega arith in
      ap (λ (k : ℕ). all_fit n (edges_in links k)) one
      ∙ ap (λ (b : Bool). b && all_fit n (edges_in links (i - 1))) (sym (told ∙ ap (fits n) is))

  pub last_bad : r ≡ false → all_fit n (edges_in links i) ≡ false
  last_bad bad = last_edge_lem ∙ simp bad

  pub last_good : r ≡ true → all_fit n (edges_in links i) ≡ all_fit n (edges_in links (i - 1))
  last_good good = last_edge_lem ∙ simp good

pub no_edges : (links : List ℕ) (n i : ℕ) → i ≤ 0 → all_fit n (edges_in links i) ≡ true
unfolding edges_in all_fit
no_edges links n i none_left = let e : i ≡ 0 = omega arith in ap (λ (k : ℕ). all_fit n (edges_in links k)) e

-- of edges that fit, each joins two of the nodes
pub all_join : (links : List ℕ) (k : ℕ) {n i : ℕ} {e : Edge} → all_fit n (edges_in links k) ≡ true → i < k → e ≡ edge_at links i
    → (e.from < n) × (e.to < n)
unfolding edges_in
all_join links zero fit below is = absurd (not-suc-le-zero below)
all_join links (suc k) fit below is =
    let last = fit_split _ (edge_at links k) (edges_in links k) fit in
    ⊎_elim
    (λ here. let e-is = is ∙ ap (edge_at links) here in rw e-is (last.0, last.1))
    (λ before. all_join links k last.4 before is)
    (eq-or-lt_of_le (le_of_suc-le-suc below))

-- ---- the list of parents

-- all is zero
pub zero_at : (n k : ℕ) → ◌≡◌ {A = ℕ} (get_or (replicate n 0) k 0) 0
zero_at zero k = refl
zero_at (suc n) zero = refl
zero_at (suc n) (suc k) = zero_at n k

-- without an edge
pub no_parents : (links : List ℕ) → Parents (replicate max_nodes 0) (edges_in links 0)
unfolding Parents edges_in parent_of
no_parents links s below = zero_at max_nodes s

-- with one edge more
parent_more : (up : List ℕ) (es : List Edge) (e : Edge) → length up ≡ max_nodes → e.to < max_nodes
    → Parents up es → Parents (set up e.to (e.from + 1)) (e ∷ es)
unfolding Parents parent_of
parent_more up es e long below so_far s s-below = go (eqb e.to s) refl
  where
    go : (t : Bool) → eqb e.to s ≡ t → get_or (set up e.to (e.from + 1)) s 0 ≡ parent_plus1 (e ∷ es) s
    go true same = rw (same, ← eqb-true e.to s same) (get_or-set_same up e.to (e.from + 1) 0 (omega arith))
    go false other =
        rw other (get_or-set_other up e.to s (e.from + 1) 0 (λ q. eqb-false _ _ other (sym q)) ∙ so_far s s-below)

pub more_parents : (links up : List ℕ) (i : ℕ) {e : Edge} {to : ℕ}
    → length up ≡ max_nodes → e ≡ edge_at links i → to ≡ e.to → to < max_nodes
    → Parents up (edges_in links i) → Parents (set up to (e.from + 1)) (edges_in links (i + 1))
unfolding edges_in
more_parents links up i {e} {to} long is to_is below so_far =
    let more = parent_more up (edges_in links i) e long (omega arith) so_far in
    rw (to_is, add-one i, ← is) more

-- no parent is beyond the nodes
pub small_parents : (up : List ℕ) (es : List Edge) → all_fit max_nodes es ≡ true → Parents up es → Small up
unfolding Parents
small_parents up es fit tells s below = go (parent_of es s) refl
  where
    go : (p : Option ℕ) → parent_of es s ≡ p → get_or up s 0 ≤ max_nodes
    go None e = omega (arith, rw e at (tells s below))
    go (Some p) e = omega (arith, rw e at (tells s below), fit_parent es max_nodes s p fit e)

-- ---- marks

-- how many places are not marked
pub unmarked : List ℕ → ℕ
unmarked [] = 0
unmarked (zero ∷ xs) = suc (unmarked xs)
unmarked (suc x ∷ xs) = unmarked xs

-- a mark more leaves fewer
pub fewer : (seen : List ℕ) (at m : ℕ) → at < length seen → get_or seen at 0 ≡ 0
    → unmarked (set seen at (m + 1)) < unmarked seen
unfolding unmarked
fewer [] at m inside free = absurd (not-suc-le-zero inside)
fewer (zero ∷ xs) zero m inside free = rw (add-one m) (omega arith)
fewer (zero ∷ xs) (suc at) m inside free = omega (arith, fewer xs at m (omega arith) free)
fewer (suc x ∷ xs) zero m inside free = absurd (omega arith)
fewer (suc x ∷ xs) (suc at) m inside free = fewer xs at m (omega arith) free

-- place k, when `at` was marked with m: it is that place, or as it was
abbrev Marked : List ℕ → ℕ → ℕ → ℕ → Type 0
Marked seen at m k = ((k ≡ at) × (get_or (set seen at m) k 0 ≡ m)) ⊎ (get_or (set seen at m) k 0 ≡ get_or seen k 0)

mark : (seen : List ℕ) (at m k : ℕ) → at < length seen → Marked seen at m k
mark seen at m k inside = go (eqb k at) refl
  where
    go : (b : Bool) → eqb k at ≡ b → Marked seen at m k
    go true same = let e = eqb-true k at same in inl (e, rw e (get_or-set_same seen at m 0 inside))
    go false other = inr (get_or-set_other seen at k m 0 (eqb-false k at other))

-- ---- steps up

-- two tests that hold together are one
same_test : (a b : Bool) → (a ≡ true → b ≡ true) → (b ≡ true → a ≡ true) → a ≡ b
same_test true b f g = sym (f refl)
same_test false b f g = sym ((not-eq-not {b = false}).0 (λ holds. let no = g holds in never (cc)))

module _ (es : List Edge) (n : ℕ) (fit : all_fit n es ≡ true) (most : n ≤ max_nodes) where
  -- the chain of a node ends at the root where its parent's does
  parent_same : (s p : ℕ) → s < n → parent_of es s ≡ Some p → rooted es s ≡ rooted es p
  parent_same s p below e = same_test _ _ (λ r. let w = rooted_up es s r in down w.0 w.1) up
    where
      up : rooted es p ≡ true → rooted es s ≡ true
      up r = let w = rooted_up es p r in up_rooted es n (suc w.0) s fit most below (p, e, w.1)

      down : (j : ℕ) → Up es j s 0 → rooted es p ≡ true
      down zero w = let top = fit_top es n fit in let here = ap (parent_of es) w in never (cc)
      down (suc j) w =
          let first = w.1 in
          let one : w.0 ≡ p = cc in
          up_rooted es n j p fit most (fit_parent es n s p fit e) (subst (λ (q : ℕ). Up es j q 0) one w.2)

  -- it does not where steps up from a node lead back to it
  in_loop : (j s : ℕ) → 0 < j → Up es j s s → rooted es s ≡ false
  in_loop j s some-steps w = (not-eq-not {b = false}).0 (λ r.
      let z = rooted_up es s r in
      omega (arith, up_once es n z.0 (j + z.0) s fit z.1 (up_then es j z.0 s s 0 w z.1)))

  -- nor where there is no parent, but for the root
  no_parent : (s : ℕ) → (s ≡ 0 → ⊥) → parent_of es s ≡ None → rooted es s ≡ false
  no_parent s not_root e = (not-eq-not {b = false}).0 (λ r. let w = rooted_up es s r in never_up w.0 w.1)
    where
      never_up : (j : ℕ) → Up es j s 0 → ⊥
      never_up zero w = not_root w
      never_up (suc j) w = let first = w.1 in never (cc)

-- ---- the walk of s

-- it has come to `at`, and marks with s + 1: what has this mark leads to `at` by one or more steps up, and what has another mark
-- was known before
pub record Walked (es : List Edge) (n s at : ℕ) (seen : List ℕ) : Type 0 where
  pub below : at < n
  pub same : rooted es s ≡ rooted es at
  pub root : get_or seen 0 0 ≡ 1
  pub own : (k : ℕ) → get_or seen k 0 ≡ s + 1 → (rooted es k ≡ rooted es at) × ((j : ℕ) × (0 < j) × Up es j k at)
  pub known : (k : ℕ) → (get_or seen k 0 ≡ 0 → ⊥) → (get_or seen k 0 ≡ s + 1 → ⊥)
      → (rooted es k ≡ true) × (get_or seen k 0 ≤ s)

pub walk_begins : {es : List Edge} {n s : ℕ} {seen : List ℕ} → s < n → Known es s seen → Walked es n s s seen
walk_begins below before = record {
  below = below;
  same = refl;
  root = before.root;
  own = λ k e. absurd (omega (arith, (before.marked k (λ z. omega arith)).1));
  known = λ k marked other. before.marked k marked;
}

module _ {up seen : List ℕ} {es : List Edge} {n s at : ℕ} (tells : Tells up es n) (walked : Walked es n s at seen) where
  -- what stands in the list is the parent
  listed_parent : (p : Option ℕ) → parent_of es at ≡ p → get_or up at 0 ≡ found p 0 (λ q. q + 1)
  unfolding Parents
  listed_parent p e =
      tells.parents at (omega (arith, walked.below, tells.most))
      ∙ ap (λ (o : Option ℕ). found o 0 (λ q. q + 1)) e

  -- a node that is not marked is not the root
  not_root : get_or seen at 0 ≡ 0 → at ≡ 0 → ⊥
  not_root free e = let marked = ap (λ (k : ℕ). get_or seen k 0) e in omega (arith, walked.root)

  -- it goes on to the parent
  pub walk_goes : {p : ℕ} → at < length seen → get_or seen at 0 ≡ 0 → p ≡ get_or up at 0 → (p ≡ 0 → ⊥)
      → Walked es n s (p - 1) (set seen at (s + 1))
  walk_goes {p} inside free p-is some-parent = go (parent_of es at) refl
    where
      go : (o : Option ℕ) → parent_of es at ≡ o → Walked es n s (p - 1) (set seen at (s + 1))
      go None e = absurd (some-parent (p-is ∙ listed_parent None e))
      go (Some q) e =
          let q-is : q ≡ p - 1 = omega (arith, listed_parent (Some q) e) in
          let step = e ∙ ap Some q-is in
          let as-parent = parent_same es n tells.fit tells.most at (p - 1) walked.below step in
          record {
            below = fit_parent es n at (p - 1) tells.fit step;
            same = walked.same ∙ as-parent;
            root = get_or-set_other seen at 0 (s + 1) 0 (λ z. not_root free (sym z)) ∙ walked.root;
            own = λ k k-own. ⊎_elim
                (λ here. (ap (rooted es) here.0 ∙ as-parent, (1, omega arith, rw here.0 (p - 1, step, refl))))
                (λ there.
                let w = walked.own k (sym there ∙ k-own) in
                (w.0 ∙ as-parent, (w.1.0 + 1, omega arith, up_then es w.1.0 1 k at (p - 1) w.1.2 (p - 1, step, refl))))
                (mark seen at (s + 1) k inside);
            known = λ k marked other. ⊎_elim
                (λ here. absurd (other here.1))
                (λ there. rw there (walked.known k (λ z. marked (there ∙ z)) (λ z. other (there ∙ z))))
                (mark seen at (s + 1) k inside);
          }

  -- there is no parent: the chain does not end at the root
  pub walk_stops : {p : ℕ} → get_or seen at 0 ≡ 0 → p ≡ get_or up at 0 → p ≡ 0 → rooted es s ≡ false
  walk_stops free p-is no_more = go (parent_of es at) refl
    where
      go : (o : Option ℕ) → parent_of es at ≡ o → rooted es s ≡ false
      go None e = walked.same ∙ no_parent es n tells.fit tells.most at (not_root free) e
      go (Some q) e = absurd (omega (arith, listed_parent (Some q) e))

  -- it meets a mark: its own, and the chain is a loop; or another, and all of its nodes are known
  pub walk_ends : (get_or seen at 0 ≡ 0 → ⊥) → let r = not (eqb (get_or seen at 0) (s + 1)) in
      (r ≡ rooted es s) × (r ≡ true → Known es (s + 1) seen)
  walk_ends marked = go (eqb (get_or seen at 0) (s + 1)) refl
    where
      each : rooted es at ≡ true → (k : ℕ) → (get_or seen k 0 ≡ 0 → ⊥) → (b : Bool) → eqb (get_or seen k 0) (s + 1) ≡ b
          → (rooted es k ≡ true) × (get_or seen k 0 ≤ s + 1)
      each here k k-marked true k-own = let e = eqb-true _ _ k-own in ((walked.own k e).0 ∙ here, omega arith)
      each here k k-marked false k-other = let w = walked.known k k-marked (eqb-false _ _ k-other) in (w.0, omega arith)

      go : (b : Bool) → eqb (get_or seen at 0) (s + 1) ≡ b → (not b ≡ rooted es s) × (not b ≡ true → Known es (s + 1) seen)
      go true own =
          let around = (walked.own at (eqb-true _ _ own)).1 in
          (sym (walked.same ∙ in_loop es n tells.fit tells.most around.0 at around.1 around.2), λ no. never (cc))
      go false other =
          let here = (walked.known at marked (eqb-false _ _ other)).0 in (
            sym (walked.same ∙ here),
            λ _. record {
              root = walked.root;
              marked = λ k k-marked. each here k k-marked (eqb (get_or seen k 0) (s + 1)) refl;
            },
          )

-- ---- every number below n passes a test

all_at : (n : ℕ) (f : ℕ → Bool) → all_below n f ≡ true → (i : ℕ) → i < n → f i ≡ true
unfolding all_below
all_at zero f a i l = absurd (not-suc-le-zero l)
all_at (suc n) f a i l =
    let b = (and-eq-true_iff (f n) (all_below n f)).0 a in
    ⊎_elim (λ e. ap f e ∙ b.0) (λ m. all_at n f b.1 i m) (eq-or-lt_of_le (le_of_suc-le-suc l))

all_is : (n : ℕ) (f : ℕ → Bool) → ((i : ℕ) → i < n → f i ≡ true) → all_below n f ≡ true
unfolding all_below
all_is zero f h = refl
all_is (suc n) f h = (and-eq-true_iff (f n) (all_below n f)).1 (h n (omega arith), all_is n f (λ i l. h i (omega arith)))

-- ---- all walks

-- the chains of all nodes below s end at the root, and what is marked is known
pub record Reached (es : List Edge) (s : ℕ) (seen : List ℕ) : Type 0 where
  pub all : all_below s (rooted es) ≡ true
  pub known : Known es s seen

root_rooted : (es : List Edge) → rooted es 0 ≡ true
unfolding rooted chain chain_of has
root_rooted es = refl

-- the root alone is marked
pub reach_begins : (es : List Edge) {seen : List ℕ} → seen ≡ replicate max_nodes 0 → Reached es 1 (set seen 0 1)
unfolding all_below
reach_begins es {seen} fresh =
    let long : length seen ≡ max_nodes = ap length fresh ∙ length-replicate {A = ℕ} max_nodes 0 in
    record {
      all = rw (root_rooted es);
      known = record {
        root = get_or-set_same seen 0 1 0 (omega arith);
        marked = λ k k-marked. ⊎_elim
            (λ here. (rw here.0 (root_rooted es), omega arith))
            (λ there. absurd (k-marked (there ∙ ap (λ (l : List ℕ). get_or l k 0) fresh ∙ zero_at max_nodes k)))
            (mark seen 0 1 k (omega arith));
      };
    }

-- one node more
pub reach_goes : {es : List Edge} {s : ℕ} {seen seen' : List ℕ} {r : Bool} → Reached es s seen → r ≡ true
    → (r ≡ rooted es s) × (r ≡ true → Known es (s + 1) seen') → Reached es (s + 1) seen'
unfolding all_below
reach_goes {s = s} {r = r} before good walk = record {
  all = rw (add-one s) (λ i. granted walk.0 good i && before.all i);
  known = walk.1 good;
}

-- one node that fails
bad_below : (f : ℕ → Bool) (n i : ℕ) → i < n → f i ≡ false → all_below n f ≡ false
bad_below f n i below bad = (not-eq-not {b = false}).0 (λ all. let good = all_at n f all i below in never (cc))

pub reach_fails : (es : List Edge) {n s : ℕ} {r : Bool} → s < n → r ≡ false → r ≡ rooted es s
    → false ≡ all_below n (rooted es)
reach_fails es {n} {s} below bad walk = sym (bad_below (rooted es) n s below (denied walk bad))

-- ---- the whole test

pub good_edges : (n k : ℕ) (es : List Edge) → 1 ≤ n → n ≤ max_nodes → k ≤ max_edges → all_fit n es ≡ true
    → all_below n (rooted es) ≡ sound_edges n k es
unfolding sound_edges
good_edges n k es some few few-edges fit = simp (le-leb 1 n some, le-leb n max_nodes few, le-leb k max_edges few-edges, fit)

-- ---- what it says

-- n nodes, and k edges, which are es, with the way from each node to the root
pub record SoundEdges (n k : ℕ) (es : List Edge) : Type 0 where
  pub some_node : 1 ≤ n
  pub few_nodes : n ≤ 1024
  pub few_edges : k ≤ 2048
  pub fit : all_fit n es ≡ true
  pub way : (s : ℕ) → s < n → (j : ℕ) × Up es j s 0

module _ (n k : ℕ) (es : List Edge) where
  pub sound_has : sound_edges n k es ≡ true → SoundEdges n k es
  unfolding sound_edges
  sound_has h =
      let a = (and-eq-true_iff (leb 1 n && leb n 1024 && leb k 2048 && all_fit n es) (all_below n (rooted es))).0 h in
      let b = (and-eq-true_iff (leb 1 n && leb n 1024 && leb k 2048) (all_fit n es)).0 a.0 in
      let c = (and-eq-true_iff (leb 1 n && leb n 1024) (leb k 2048)).0 b.0 in
      let d = (and-eq-true_iff (leb 1 n) (leb n 1024)).0 c.0 in
      record {
        some_node = leb-true _ _ d.0;
        few_nodes = leb-true _ _ d.1;
        few_edges = leb-true _ _ c.1;
        fit = b.1;
        way = λ s l. rooted_up es s (all_at n (rooted es) a.1 s l);
      }

  pub sound_is : SoundEdges n k es → sound_edges n k es ≡ true
  unfolding sound_edges
  sound_is h =
      rw (le-leb 1 n h.some_node, le-leb n 1024 h.few_nodes, le-leb k 2048 h.few_edges, h.fit)
      (all_is n (rooted es) (λ s l. let w = h.way s l in up_rooted es n w.0 s h.fit h.few_nodes l w.1))
