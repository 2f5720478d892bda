-- What the test of a table and a node says to the calls behind it. Assumes nothing.
use mathlib.Core.Bool.{Bool, true, false, ◌&&◌, and-eq-true_iff}
use mathlib.Core.Path.{◌≡◌, sym, subst}
use mathlib.Core.List.{List}
use Prim.Native.Nat.{ℕ, ◌<◌, ◌≤◌}
use native.Mathlib.Omega.{arith}
use lib.Dec.{ltb}
use borrow.Author.Tests.{ltb-true, le-ltb, lt-ltb}
use Rattle.edges.specs.declared.Edge.{Edge}
use Rattle.edges.specs.Edges.{edges_in, held}
use Rattle.edges.proofs.Laws.{all_held}
use Rattle.soundness.specs.Sound.{all_fit, sound_edges, is_node_in}
use Rattle.soundness.specs.Steps.{Ends}
use Rattle.soundness.proofs.Chains.{fit_more, fit_top, up_rooted}
use Rattle.soundness.proofs.Sound.{sound_has}

-- ---- two tests

pub fails_first : {p : Bool} (q : Bool) → p ≡ false → (p && q) ≡ false
fails_first q h = rw h

pub fails_then : {p q : Bool} → p ≡ true → q ≡ false → (p && q) ≡ false
fails_then h g = rw (h, g)

pub holds_both : {p q : Bool} → p ≡ true → q ≡ true → (p && q) ≡ true
holds_both h g = rw (h, g)

-- ---- a node of a sound table: of n nodes and k edges, which are es

module _ (n k : ℕ) (es : List Edge) (s : ℕ) where
  pub record Node : Type 0 where
    pub few_nodes : n ≤ 1024
    pub few_edges : k ≤ 2048
    pub below : s < n
    pub fit : all_fit 1024 es ≡ true
    pub ends : Ends es s

  pub node_has : (sound_edges n k es && ltb s n) ≡ true → Node
  node_has h =
      let a = (and-eq-true_iff (sound_edges n k es) (ltb s n)).0 h in
      let b = sound_has n k es a.0 in
      let below : s < n = ltb-true s n a.1 in
      let way = b.way s below in
      record {
        few_nodes = b.few_nodes;
        few_edges = b.few_edges;
        below = below;
        fit = fit_more n 1024 es b.few_nodes b.fit;
        ends = (fit_top es n b.fit, up_rooted es n way.0 s b.fit b.few_nodes below way.1);
      }

  -- another node of the same table, or none
  module _ (h : (sound_edges n k es && ltb s n) ≡ true) {v : ℕ} (m : ℕ) (is : v ≡ m) where
    pub also_node : v < n → (sound_edges n k es && ltb m n) ≡ true
    also_node l = holds_both ((and-eq-true_iff (sound_edges n k es) (ltb s n)).0 h).0 (lt-ltb m n (omega arith))

    pub no_node : n ≤ v → (sound_edges n k es && ltb m n) ≡ false
    no_node l = fails_then ((and-eq-true_iff (sound_edges n k es) (ltb s n)).0 h).0 (le-ltb m n (omega arith))

-- ---- the same of edges that are words, as a look-up holds them

module _ (n k : ℕ) (links : List ℕ) (s : ℕ) (h : is_node_in n k (edges_in links k) s ≡ true) where
  pub node_held : held links k ≡ edges_in links k
  node_held = all_held links k (node_has n k (edges_in links k) s h).few_edges

  pub ends_held : Ends (held links k) s
  ends_held = subst (λ (es : List Edge). Ends es s) (sym node_held) (node_has n k (edges_in links k) s h).ends
