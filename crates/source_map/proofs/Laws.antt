-- What a map's shape tells, and what `clear` and `add` leave. Assumes nothing.
use mathlib.Core.Bool.{true, false, and-eq-true_iff}
use mathlib.Core.Path.{◌≡◌, refl, sym, ap, ◌∙◌}
use mathlib.Core.List.{List, [], ◌∷◌, ◌++◌}
use Prim.Native.Nat.{ℕ, ◌+◌, ◌*◌, ◌<◌, ◌≤◌}
use native.Mathlib.Omega.{arith}
use lib.ListN.{length, get_or, set, length-append}
use borrow.Author.Tests.{eqb-true, leb-true, lt-ltb}
use Rattle.refusals.specs.Answer.{Answer, Done, Refused, outcome}
use Rattle.refusals.specs.Table.{argument}
use Rattle.refusals.specs.Memory.{over}
use Rattle.source_map.specs.declared.Entry.{Entry}
use Rattle.source_map.specs.Entry.{in_range, words_of}
use Rattle.source_map.specs.SourceMap.{entries, stored, shaped, sound, of_map, map_after, add}
use Rattle.source_map.proofs.Words.{length_entries, holding, holding_none, holding_own, holding_more, count_written}

-- ---- what has the shape of a map has room for its entries

pub record Shape (m : List ℕ) : Type 0 where
  pub size : length m ≡ 16385
  pub count : get_or m 0 0 ≤ 4096

pub shape : (m : List ℕ) → shaped m ≡ true → Shape m
shape m h =
    let both = (and-eq-true_iff _ _).0 h in
    record { size = eqb-true _ _ both.0; count = leb-true _ _ both.1 }

pub sound_shaped : (m : List ℕ) → sound m ≡ true → shaped m ≡ true
sound_shaped m h = ((and-eq-true_iff (shaped m) _).0 h).0

pub sound_shape : (m : List ℕ) → sound m ≡ true → Shape m
sound_shape m h = shape m (sound_shaped m h)

-- ---- the calls

-- what is asked of no map is refused, and of a map it is answered
pub no_map : (m : List ℕ) {A : Type 0} (a : Answer A) → sound m ≡ false → of_map m a ≡ Refused argument
no_map m a h = simp (h)

pub of_map_lem : (m : List ℕ) {A : Type 0} (a : Answer A) → sound m ≡ true → of_map m a ≡ a
of_map_lem m a h = simp (h)

-- what a call leaves that is done
pub changed : (m : List ℕ) {x : List ℕ} {es : List Entry} (a : Answer (List Entry)) → a ≡ Done es → x ≡ stored m es
    → (◌≡◌ {A = Answer (Unit {0})} (Done tt) (outcome a)) × (x ≡ map_after m a)
changed m a e f = (sym (ap outcome e), f ∙ sym (ap (map_after m) e))

pub stored_none : (m : List ℕ) → 0 < length m → set m 0 0 ≡ stored m []
stored_none m h = ap (λ (l : List ℕ). set l 0 0) (holding_none m) ∙ count_written m [] 0 h refl

module _ (m : List ℕ) (map : sound m ≡ true) where
  pub add_done : (e : Entry) → in_range e ≡ true → get_or m 0 0 < 4096 → add m e ≡ Done (entries m ++ e ∷ [])
  add_done e h f = of_map_lem m _ map ∙ simp (h, lt-ltb (get_or m 0 0) 4096 f)

  pub add_stored : {x : List ℕ} (e : Entry) → get_or m 0 0 < 4096 → x ≡ over m (1 + 4 * get_or m 0 0) (words_of e) → set x 0 (get_or m 0 0 + 1) ≡ stored m (entries m ++ e ∷ [])
  unfolding entries
  add_stored e h w =
      let n : ℕ = get_or m 0 0 in
      let s = sound_shape m map in
      let number = length_entries m 0 n in
      let own : holding m (entries m) ≡ m = holding_own m n (omega arith) in
      ap (λ (l : List ℕ). set l 0 (n + 1)) (w ∙ ap (λ (l : List ℕ). over l (1 + 4 * n) (words_of e)) (sym own) ∙ holding_more m (entries m) n number (omega arith) e)
      ∙ count_written m (entries m ++ e ∷ []) (n + 1) (omega arith) (length-append (entries m) (e ∷ []) ∙ ap (λ (k : ℕ). k + 1) number)
