-- Entries and the words of lent memory that hold them: entries written one behind the other, from the first on, are the
-- memory with all of them in it. Assumes nothing.
use mathlib.Core.Path.{◌≡◌, refl, sym, ap, ◌∙◌}
use mathlib.Core.List.{List, [], ◌∷◌, ◌++◌}
use Prim.Native.Nat.{ℕ, zero, suc, ◌+◌, ◌*◌, ◌≤◌}
use native.Mathlib.Omega.{arith}
use lib.ListN.{length, drop, get_or, set}
use lib.Seq.{sets-eq, set-get_or}
use Rattle.refusals.specs.Memory.{over}
use Rattle.refusals.proofs.Memory.{over_nothing, get_or_over, over_over}
use Rattle.source_map.specs.declared.Entry.{Entry}
use Rattle.source_map.specs.Entry.{words_of, entry_at}
use Rattle.source_map.specs.SourceMap.{count_in, entries_from, words_of_all, stored}

-- ---- four words

module _ (m : List ℕ) (at : ℕ) (room : at + 4 ≤ length m) where
  pub four_stores : (a b c d : ℕ) → set (set (set (set m at a) (at + 1) b) (at + 2) c) (at + 3) d ≡ over m at (a ∷ b ∷ c ∷ d ∷ [])
  unfolding over
  four_stores a b c d =
      let second : at + 1 ≡ suc at = omega arith in
      let third : at + 2 ≡ suc (suc at) = omega arith in
      let fourth : at + 3 ≡ suc (suc (suc at)) = omega arith in
      (λ i. set (set (set (set m at a) (second i) b) (third i) c) (fourth i) d) ∙ sets-eq (a ∷ b ∷ c ∷ d ∷ []) m at room

  -- four words over themselves
  pub four_kept : over m at (get_or m at 0 ∷ get_or m (at + 1) 0 ∷ get_or m (at + 2) 0 ∷ get_or m (at + 3) 0 ∷ []) ≡ m
  four_kept = sym (four_stores _ _ _ _) ∙ simp (set-get_or)

-- ---- entries and their words

pub length_words : (es : List Entry) → length (words_of_all es) ≡ 4 * length es
length_words [] = refl
length_words (e ∷ es) = omega (arith, length_words es)

pub words_append : (es fs : List Entry) → words_of_all (es ++ fs) ≡ words_of_all es ++ words_of_all fs
words_append [] fs = refl
words_append (e ∷ es) fs = ap (λ (l : List ℕ). words_of e ++ l) (words_append es fs)

pub length_entries : (m : List ℕ) (i n : ℕ) → length (entries_from m i n) ≡ n
length_entries m i zero = refl
length_entries m i (suc n) = ap suc (length_entries m (suc i) n)

-- one entry more
pub entries_more : (m : List ℕ) (i n k : ℕ) → i + n ≡ k → entries_from m i (suc n) ≡ entries_from m i n ++ entry_at m k ∷ []
entries_more m i zero k e = let f : i ≡ k = omega arith in ap (λ (j : ℕ). entry_at m j ∷ []) f
entries_more m i (suc n) k e = ap (λ (es : List Entry). entry_at m i ∷ es) (entries_more m (suc i) n k (omega arith))

-- ---- the memory with these entries in it, and its count as it was

unfoldable pub holding : List ℕ → List Entry → List ℕ
holding m es = over m 1 (words_of_all es)

pub holding_none : (m : List ℕ) → m ≡ holding m []
unfolding holding
holding_none m = over_nothing m 1

module _ (m : List ℕ) (es : List Entry) (n : ℕ) (number : length es ≡ n) (room : 1 + 4 * n ≤ length m) where
  fits : 1 + length (words_of_all es) ≤ length m
  fits = omega (arith, length_words es)

  next_at : 1 + length (words_of_all es) ≡ 1 + 4 * n
  next_at = omega (arith, length_words es)

  -- one more is written behind them
  pub holding_more : (e : Entry) → over (holding m es) (1 + 4 * n) (words_of e) ≡ holding m (es ++ e ∷ [])
  unfolding holding
  holding_more e =
      ap (λ (k : ℕ). over (holding m es) k (words_of e)) (sym next_at)
      ∙ over_over m 1 (words_of_all es) fits (words_of e)
      ∙ ap (over m 1) (sym (words_append es (e ∷ [])))

  -- the one behind them is as it was
  pub entry_behind : entry_at (holding m es) n ≡ entry_at m n
  unfolding holding entry_at
  entry_behind =
      let get = get_or_over m 1 (words_of_all es) fits in
      let at : ℕ = 1 + 4 * n in
      let words = length_words es in
      λ i. record { scope = get at (omega arith) i; span = get (at + 1) (omega arith) i; pc = get (at + 2) (omega arith) i; len = get (at + 3) (omega arith) i }

-- the memory holds its own entries
pub holding_own : (m : List ℕ) (n : ℕ) → 1 + 4 * n ≤ length m → holding m (entries_from m 0 n) ≡ m
unfolding entry_at
holding_own m zero room = sym (holding_none m)
holding_own m (suc n) room =
    let es : List Entry = entries_from m 0 n in
    let before : holding m es ≡ m = holding_own m n (omega arith) in
    ap (holding m) (entries_more m 0 n n (omega arith))
    ∙ sym (holding_more m es n (length_entries m 0 n) (omega arith) (entry_at m n))
    ∙ ap (λ (l : List ℕ). over l (1 + 4 * n) (words_of (entry_at m n))) before
    ∙ four_kept m (1 + 4 * n) (omega arith)

-- with the count written, they are what is stored
pub count_written : (m : List ℕ) (es : List Entry) (n : ℕ) → 1 ≤ length m → length es ≡ n → set (holding m es) 0 n ≡ stored m es
unfolding holding stored over
count_written [] es n h e = absurd (omega arith)
count_written (x ∷ xs) es n h e =
    let f : 1 + length (words_of_all es) ≡ 0 + suc (length (words_of_all es)) = omega arith in
    λ i. sym e i ∷ (words_of_all es ++ drop (f i) (x ∷ xs))

-- a count that is theirs is as good as written
pub count_kept : (m : List ℕ) (es : List Entry) → 1 ≤ length m → length es ≡ count_in m → holding m es ≡ stored m es
unfolding holding over
count_kept [] es h e = absurd (omega arith)
count_kept (x ∷ xs) es h e = count_written (x ∷ xs) es x h e
