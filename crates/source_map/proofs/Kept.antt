-- What is stored is read back, and a call that is done leaves a sound map. Assumes nothing.
use mathlib.Core.Bool.{Bool, true, false, ◌&&◌, and-eq-true_iff}
use mathlib.Core.Path.{◌≡◌, refl, sym, ap, ◌∙◌, subst}
use mathlib.Core.List.{List, [], ◌∷◌, ◌++◌, append_assoc}
use Prim.Native.Nat.{ℕ, suc, ◌+◌, ◌*◌, ◌<◌, ◌≤◌}
use native.Mathlib.Omega.{arith}
use lib.Dec.{eqb, leb, ltb}
use lib.ListN.{length, get_or, drop, length-append, length-map}
use lib.Seq.{get_or-append-add}
use borrow.Author.Tests.{le-leb, leb-true, ltb-true, eq-eqb}
use Rattle.refusals.specs.Answer.{Done, pick}
use Rattle.refusals.specs.Table.{argument, no_room}
use Rattle.refusals.specs.Memory.{over}
use Rattle.refusals.proofs.Pick.{done_passed, done_value}
use Rattle.refusals.proofs.Memory.{length_over}
use Rattle.source_map.specs.declared.Entry.{Entry}
use Rattle.source_map.specs.Entry.{in_range, moved, words_of, entry_at}
use Rattle.source_map.specs.SourceMap.{count_in, entries_from, entries, words_of_all, stored, all_in_range, shaped, sound, clear, add, moved_all, move_offsets}
use Rattle.source_map.proofs.Words.{length_words, length_entries}
use Rattle.source_map.proofs.Laws.{sound_shape}

-- ---- what is stored is read back

-- entries that stand behind 1 + 4 * i words are those from number i on
read_back : (before behind : List ℕ) (es : List Entry) (i : ℕ) → length before ≡ 1 + 4 * i → entries_from (before ++ (words_of_all es ++ behind)) i (length es) ≡ es
unfolding entry_at
read_back before behind [] i h = refl
read_back before behind (e ∷ es) i h =
    let m : List ℕ = before ++ (words_of_all (e ∷ es) ++ behind) in
    let at : ℕ = 1 + 4 * i in
    let word : (k : ℕ) → get_or m (at + k) 0 ≡ get_or (words_of_all (e ∷ es) ++ behind) k 0 = λ k. ap (λ (n : ℕ). get_or m (n + k) 0) (sym h) ∙ get_or-append-add before _ k 0 in
    let first : get_or m at 0 ≡ e.scope = ap (λ (n : ℕ). get_or m n 0) (omega arith) ∙ word 0 in
    let entry : entry_at m i ≡ e = λ k. record { scope = first k; span = word 1 k; pc = word 2 k; len = word 3 k } in
    let rest : entries_from m (suc i) (length es) ≡ es =
    ap (λ (l : List ℕ). entries_from l (suc i) (length es)) (sym (append_assoc before (words_of e) (words_of_all es ++ behind)))
    ∙ read_back (before ++ words_of e) behind es (suc i) (length-append before (words_of e) ∙ omega arith) in
    λ k. entry k ∷ rest k

module _ (m : List ℕ) (size : length m ≡ 16385) (es : List Entry) (room : length es ≤ 4096) where
  -- what is stored is read back
  pub entries_stored : entries (stored m es) ≡ es
  unfolding entries stored over
  entries_stored = read_back (length es ∷ []) (drop (0 + length (length es ∷ words_of_all es)) m) es 0 refl

  length_stored : length (stored m es) ≡ 16385
  unfolding stored
  length_stored = length_over m 0 (length es ∷ words_of_all es) (omega (arith, length_words es)) ∙ size

  count_stored : count_in (stored m es) ≡ length es
  unfolding stored over
  count_stored = refl

  pub stored_sound : all_in_range es ≡ true → sound (stored m es) ≡ true
  stored_sound good =
      let few : count_in (stored m es) ≤ 4096 = omega (arith, count_stored) in
      simp (eq-eqb _ _ length_stored, le-leb _ _ few) (ap all_in_range entries_stored ∙ good)

-- ---- a call that is done leaves a sound map with the entries that it gives

abbrev pub Kept : List ℕ → List Entry → Type 0
Kept m es = (sound (stored m es) ≡ true) × (entries (stored m es) ≡ es)

in_range_append : (es fs : List Entry) → all_in_range es ≡ true → all_in_range fs ≡ true → all_in_range (es ++ fs) ≡ true
in_range_append [] fs h k = k
in_range_append (e ∷ es) fs h k =
    let both = (and-eq-true_iff (in_range e) (all_in_range es)).0 h in
    λ i. both.0 i && in_range_append es fs both.1 k i

moved_in_range : (from to span : ℕ) → to ≤ 1023 → (e : Entry) → in_range e ≡ true → in_range (moved from to span e) ≡ true
unfolding moved
moved_in_range from to span h e k = go (eqb e.scope from)
  where
    go : (t : Bool) → in_range (pick t (record { scope = to; span = span; pc = e.pc; len = e.len }) e) ≡ true
    go false = k
    go true =
        let last = (and-eq-true_iff (leb e.scope 1023 && leb e.pc 65536) (leb e.len 65536)).0 k in
        let first = (and-eq-true_iff (leb e.scope 1023) (leb e.pc 65536)).0 last.0 in
        λ i. le-leb to 1023 h i && first.1 i && last.1 i

all_moved_in_range : (from to span : ℕ) → to ≤ 1023 → (es : List Entry) → all_in_range es ≡ true → all_in_range (moved_all from to span es) ≡ true
all_moved_in_range from to span h [] k = refl
all_moved_in_range from to span h (e ∷ es) k =
    let both = (and-eq-true_iff (in_range e) (all_in_range es)).0 k in
    λ i. moved_in_range from to span h e both.0 i && all_moved_in_range from to span h es both.1 i

-- a sound map has the one length, its count of entries, and all of them in range
has : (m : List ℕ) → sound m ≡ true → (length m ≡ 16385) × (length (entries m) ≡ count_in m) × (count_in m ≤ 4096) × (all_in_range (entries m) ≡ true)
unfolding entries
has m h =
    let s = sound_shape m h in
    (s.size, length_entries m 0 (get_or m 0 0), s.count, ((and-eq-true_iff (shaped m) _).0 h).1)

keeps : (m : List ℕ) (es : List Entry) → length m ≡ 16385 → length es ≤ 4096 → all_in_range es ≡ true → Kept m es
keeps m es size room good = (stored_sound m size es room good, entries_stored m size es room)

pub clear_kept : (m : List ℕ) {es : List Entry} → clear m ≡ Done es → Kept m es
clear_kept m e =
    let a = done_passed (sound m) (Done []) argument e in
    let h = has m a.0 in
    subst (Kept m) (done_value a.1) (keeps m [] h.0 (omega arith) refl)

pub add_kept : (m : List ℕ) (e : Entry) {es : List Entry} → add m e ≡ Done es → Kept m es
add_kept m e f =
    let a = done_passed (sound m) _ argument f in
    let b = done_passed (in_range e) _ argument a.1 in
    let c = done_passed (ltb (count_in m) 4096) (Done (entries m ++ e ∷ [])) no_room b.1 in
    let h = has m a.0 in
    let below : count_in m < 4096 = ltb-true _ _ c.0 in
    let number = length-append (entries m) (e ∷ []) in
    subst (Kept m) (done_value c.1) (keeps m (entries m ++ e ∷ []) h.0 (omega arith) (in_range_append (entries m) (e ∷ []) h.3 (λ i. b.0 i && true)))

pub move_offsets_kept : (m : List ℕ) (from to span : ℕ) {es : List Entry} → move_offsets m from to span ≡ Done es → Kept m es
move_offsets_kept m from to span f =
    let a = done_passed (sound m) _ argument f in
    let b = done_passed (leb from 1023 && leb to 1023) (Done (moved_all from to span (entries m))) argument a.1 in
    let scopes = (and-eq-true_iff (leb from 1023) (leb to 1023)).0 b.0 in
    let h = has m a.0 in
    let number = length-map (entries m) (moved from to span) in
    subst (Kept m) (done_value b.1)
    (keeps m (moved_all from to span (entries m)) h.0 (omega arith) (all_moved_in_range from to span (leb-true _ _ scopes.1) (entries m) h.3))
