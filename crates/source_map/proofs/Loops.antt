-- What the loops over the entries keep: that which looks whether all are in range, that which looks for an address, and that
-- which moves. Assumes nothing.
use Rattle.std.specs.Prelude.{Option, None, Some}
use mathlib.Core.Bool.{Bool, true, false, ◌&&◌, and-false}
use mathlib.Core.Path.{◌≡◌, refl, sym, ap, ◌∙◌}
use mathlib.Core.List.{List, [], ◌∷◌, map-append}
use Prim.Native.Nat.{ℕ, zero, suc, ◌+◌, ◌-◌, ◌*◌, ◌<◌, ◌≤◌}
use native.Mathlib.Omega.{arith}
use lib.Dec.{ltb}
use lib.ListN.{length, get_or, length-map}
use borrow.Author.Tests.{lt-ltb, le-ltb}
use Rattle.refusals.specs.Answer.{Done, pick}
use Rattle.refusals.specs.Memory.{over}
use Rattle.source_map.specs.declared.Entry.{Entry}
use Rattle.source_map.specs.Entry.{in_range, holds, moved, words_of, entry_at}
use Rattle.source_map.specs.SourceMap.{entries_from, entries, stored, all_in_range, shaped, sound, first_holding, address_to_offset, moved_all}
use Rattle.source_map.proofs.Words.{length_entries, entries_more, holding, holding_more, entry_behind, count_kept}
use Rattle.source_map.proofs.Laws.{shape, of_map_lem}

-- ---- the entries from number i on, of n

abbrev pub rest : List ℕ → ℕ → ℕ → List Entry
rest m i n = entries_from m i (n - i)

-- entry j is before those from i on
rest_next : (m : List ℕ) (j i n : ℕ) {e : Entry} → suc j ≡ i → i ≤ n → e ≡ entry_at m j → rest m j n ≡ e ∷ rest m i n
rest_next m j i n before below is =
    let more : n - j ≡ suc (n - i) = omega arith in
    ap (entries_from m j) more ∙ (λ k. sym is k ∷ entries_from m (before k) (n - i))

pub rest_all : (m : List ℕ) → rest m 0 (get_or m 0 0) ≡ entries m
unfolding entries
rest_all m = let all : get_or m 0 0 - 0 ≡ get_or m 0 0 = omega arith in ap (entries_from m 0) all

-- ---- are all in range?

-- one that is not makes the map unsound
bad_from : (m : List ℕ) (i n : ℕ) → i ≤ n → all_in_range (rest m i n) ≡ false → all_in_range (rest m 0 n) ≡ false
bad_from m zero n h bad = bad
bad_from m (suc i) n h bad = bad_from m i n (omega arith) (ap all_in_range (rest_next m i (suc i) n refl h refl) ∙ simp (bad, and-false))

pub bad_entry : (m : List ℕ) (i : ℕ) {e : Entry} → i < get_or m 0 0 → e ≡ entry_at m i → in_range e ≡ false → sound m ≡ false
bad_entry m i h is bad =
    let n : ℕ = get_or m 0 0 in
    let here : all_in_range (rest m i n) ≡ false = ap all_in_range (rest_next m i (suc i) n refl h is) ∙ simp (bad) in
    ap (λ (b : Bool). shaped m && b) (ap all_in_range (sym (rest_all m)) ∙ bad_from m i n (omega arith) here) ∙ and-false (shaped m)

-- one that is leaves the answer to those behind it
pub good_entry : (m : List ℕ) (i n : ℕ) {e : Entry} → i < n → e ≡ entry_at m i → in_range e ≡ true → all_in_range (rest m (i + 1) n) ≡ all_in_range (rest m i n)
good_entry m i n h is good = sym (ap all_in_range (rest_next m i (i + 1) n (omega arith) (omega arith) is) ∙ simp (good))

pub all_good : (m : List ℕ) → shaped m ≡ true → all_in_range (entries m) ≡ true → sound m ≡ true
all_good m h e = λ k. h k && e k

-- ---- which holds the address?

-- what `first` says: the entry of that number, or none if there is no such entry
abbrev said : List ℕ → ℕ → ℕ → Option Entry
said m n first = pick (ltb first n) (Some (entry_at m first)) None

-- of the entries from number i on, all are in range, and `first` says the first that holds the address
pub record Looked (m : List ℕ) (address n first i : ℕ) : Type 0 where
  pub range : all_in_range (rest m i n) ≡ true
  pub found : said m n first ≡ first_holding address (rest m i n)

-- one entry before them, in range: it is the first now, if it holds the address
module _ (m : List ℕ) (address n first i j : ℕ) (before : suc j ≡ i) (below : i ≤ n) (looked : Looked m address n first i) {e : Entry} (is : e ≡ entry_at m j) where
  now_first : (b : Bool) (w : ℕ) → holds address e ≡ b → w ≡ pick b j first → said m n w ≡ pick (holds address e) (Some e) (first_holding address (rest m i n))
  now_first true w h w-is =
      let there_is : w < n = omega arith in
      simp (h, lt-ltb w n there_is) (ap Some (ap (entry_at m) w-is ∙ sym is))
  now_first false w h w-is = simp (h) (ap (said m n) w-is ∙ looked.found)

  pub looked_next : {w : ℕ} → in_range e ≡ true → w ≡ pick (holds address e) j first → Looked m address n w j
  looked_next {w} good w-is =
      let next = rest_next m j i n before below is in
      record {
        range = ap all_in_range next ∙ (λ k. good k && looked.range k);
        found = now_first (holds address e) w refl w-is ∙ sym (ap (first_holding address) next);
      }

-- all were looked at
module _ (m : List ℕ) (shaped-is : shaped m ≡ true) (address first i : ℕ) (done : i ≤ 0) (looked : Looked m address (get_or m 0 0) first i) where
  looked_all : address_to_offset m address ≡ Done (said m (get_or m 0 0) first)
  looked_all =
      let none_left : i ≡ 0 = omega arith in
      let all : rest m i (get_or m 0 0) ≡ entries m = ap (λ (k : ℕ). rest m k (get_or m 0 0)) none_left ∙ rest_all m in
      of_map_lem m _ (all_good m shaped-is (ap all_in_range (sym all) ∙ looked.range)) ∙ ap Done (ap (first_holding address) (sym all) ∙ sym looked.found)

  pub found_one : {e : Entry} → first < get_or m 0 0 → e ≡ entry_at m first → Done (Some e) ≡ address_to_offset m address
  found_one h e = sym (looked_all ∙ simp (lt-ltb first (get_or m 0 0) h, e))

  pub found_none : get_or m 0 0 ≤ first → Done None ≡ address_to_offset m address
  found_none h = sym (looked_all ∙ simp (le-ltb first (get_or m 0 0) h))

-- ---- moving

-- one entry more is moved, and when all are, they are stored
module _ (m : List ℕ) (from to span : ℕ) where
  abbrev pub moved_to : ℕ → List Entry
  moved_to i = moved_all from to span (entries_from m 0 i)

  number_moved : (i : ℕ) → length (moved_to i) ≡ i
  number_moved i = length-map (entries_from m 0 i) (moved from to span) ∙ length_entries m 0 i

  pub move_next : {x y : List ℕ} {e f : Entry} (i : ℕ) → 5 + 4 * i ≤ length m → x ≡ holding m (moved_to i)
      → e ≡ entry_at x i → f ≡ moved from to span e → y ≡ over x (1 + 4 * i) (words_of f) → y ≡ holding m (moved_to (i + 1))
  move_next {x} {y} {e} {f} i room x-is e-is f-is y-is =
      let step = moved from to span in
      let es : List Entry = entries_from m 0 i in
      let one : suc i ≡ i + 1 = omega arith in
      let entry-is : f ≡ step (entry_at m i) = f-is ∙ ap step (e-is ∙ ap (λ (l : List ℕ). entry_at l i) x-is ∙ entry_behind m (moved_to i) i (number_moved i) (omega arith)) in
      y-is
      ∙ (λ k. over (x-is k) (1 + 4 * i) (words_of (entry-is k)))
      ∙ holding_more m (moved_to i) i (number_moved i) (omega arith) (step (entry_at m i))
      ∙ ap (holding m) (sym (map-append step es (entry_at m i ∷ [])) ∙ ap (moved_all from to span) (sym (entries_more m 0 i i (omega arith))) ∙ ap moved_to one)

  pub move_all : {x : List ℕ} (i : ℕ) → shaped m ≡ true → i ≤ get_or m 0 0 → get_or m 0 0 ≤ i → x ≡ holding m (moved_to i) → x ≡ stored m (moved_all from to span (entries m))
  unfolding entries
  move_all i h below above e =
      let s = shape m h in
      let n : ℕ = get_or m 0 0 in
      let all : i ≡ n = omega arith in
      e ∙ ap (λ (k : ℕ). holding m (moved_to k)) all ∙ count_kept m (moved_to n) (omega arith) (number_moved n)
