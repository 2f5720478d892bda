-- The path of a name record, id by id. Assumes nothing.
use Rattle.std.specs.Prelude.{Option}
use mathlib.Core.Bool.{Bool, true, false, ◌&&◌}
use mathlib.Core.List.{List, [], ◌∷◌}
use mathlib.Core.Path.{◌≡◌, refl, sym, ap, ◌∙◌}
use Prim.Native.Nat.{ℕ, ◌-◌, ◌/◌, ◌<◌, ◌≤◌}
use native.Mathlib.Omega.{arith}
use lib.Dec.{leb}
use lib.ListN.{length, take, drop, length-drop}
use lib.Seq.{drop-drop}
use borrow.Author.Tests.{lt-leb}
use Rattle.refusals.specs.Answer.{Answer, Refused}
use Rattle.refusals.specs.Table.{argument}
use Rattle.refusals.proofs.Pick.{at_false}
use Rattle.little.specs.Little.{number, number_at}
use Rattle.edges.specs.Edges.{max_edges}
use Rattle.scopes.specs.Scopes.{query_edges}
use Rattle.lookup.specs.Lookup.{ids, path_of, node_of}

-- ---- how many ids there are

length_ids : (l : List ℕ) → length (ids l) ≡ length l / 2
length_ids [] = refl
length_ids (a ∷ []) = refl
length_ids (a ∷ b ∷ l) = omega (arith, length_ids l)

pub length_path : (r : List ℕ) → length (path_of r) ≡ (length r - 2) / 2
length_path r = length_ids (drop 2 r) ∙ ap (λ (n : ℕ). n / 2) (length-drop 2 r)

-- ---- the ids

-- the number of the two bytes from i on
abbrev id_at : List ℕ → ℕ → ℕ
id_at l i = number (take 2 (drop i l))

first_four : (l : List ℕ) → length l / 2 ≤ 4 → take (length l / 2) (id_at l 0 ∷ id_at l 2 ∷ id_at l 4 ∷ id_at l 6 ∷ []) ≡ ids l
first_four [] h = refl
first_four (a ∷ []) h = refl
first_four (a ∷ b ∷ []) h = refl
first_four (a ∷ b ∷ c ∷ []) h = refl
first_four (a ∷ b ∷ c ∷ d ∷ []) h = refl
first_four (a ∷ b ∷ c ∷ d ∷ e ∷ []) h = refl
first_four (a ∷ b ∷ c ∷ d ∷ e ∷ f ∷ []) h = refl
first_four (a ∷ b ∷ c ∷ d ∷ e ∷ f ∷ g ∷ []) h = refl
first_four (a ∷ b ∷ c ∷ d ∷ e ∷ f ∷ g ∷ i ∷ []) h = refl
first_four (a ∷ b ∷ c ∷ d ∷ e ∷ f ∷ g ∷ i ∷ j ∷ []) h = refl
first_four (a ∷ b ∷ c ∷ d ∷ e ∷ f ∷ g ∷ i ∷ j ∷ k ∷ l) h = absurd (omega arith)

fails : (p : Bool) {q : Bool} → q ≡ false → (p && q) ≡ false
fails true h = h
fails false h = refl

-- n ids, read one by one
module _ (r : List ℕ) (n : ℕ) (is : n ≡ (length r - 2) / 2) where
  pub path_is : n ≤ 4 → {a b c d : ℕ} → a ≡ number_at 2 r 2 → b ≡ number_at 2 r 4 → c ≡ number_at 2 r 6 → d ≡ number_at 2 r 8
      → take n (a ∷ b ∷ c ∷ d ∷ []) ≡ path_of r
  unfolding number_at
  path_is h pa pb pc pd =
      let e : n ≡ length (drop 2 r) / 2 = is ∙ ap (λ (m : ℕ). m / 2) (sym (length-drop 2 r)) in
      rw (pa, pb, pc, pd, ← drop-drop 2 2 r, ← drop-drop 4 2 r, ← drop-drop 6 2 r, e) (first_four (drop 2 r) (omega arith))

  -- more than a path may have
  pub path_long : (links : List ℕ) (k scope : ℕ) → 4 < n → Refused argument ≡ node_of links k scope r
  unfolding node_of query_edges
  path_long links k scope h =
      let long : 4 < length (path_of r) = omega (arith, length_path r) in
      at_false _ _ (fails (leb k max_edges) (lt-leb _ 4 long))

pub asked : (links : List ℕ) (k scope : ℕ) (r : List ℕ) {p : List ℕ} {a : Answer (Option ℕ)} → p ≡ path_of r → a ≡ query_edges links k scope p
    → a ≡ node_of links k scope r
unfolding node_of
asked links k scope r h e = e ∙ ap (query_edges links k scope) h
