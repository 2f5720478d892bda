-- What is laid in two goes is laid in one, whether or not there is room for all. Assumes nothing.
use mathlib.Core.Bool.{Bool, true, false}
use mathlib.Core.List.{List, [], ◌∷◌, ◌++◌}
use mathlib.Core.Path.{◌≡◌, refl, sym, ap, ◌∙◌}
use Prim.Native.Nat.{ℕ, zero, suc, ◌+◌, ◌-◌, ◌≤◌, ◌<◌}
use native.Mathlib.Numerals.{add-one}
use native.Mathlib.Omega.{arith}
use lib.Dec.{leb}
use lib.ListN.{length, take, drop, set, length-append, length-take}
use lib.Seq.{take-nil, take_all, append_snoc, set_split}
use borrow.Author.Tests.{leb-true, leb-false}
use Rattle.refusals.specs.Memory.{over}
use Rattle.refusals.proofs.Memory.{over_nothing, over_over, length_over}
use Rattle.page.specs.Page.{fitting, laid}

-- bytes for which there is room
abbrev written : List ℕ → ℕ → List ℕ → ℕ × List ℕ
written memory at bytes = (at + length bytes, over memory at bytes)

module _ (memory : List ℕ) (at : ℕ) where
  -- ---- where nothing is laid

  none_laid : (bytes : List ℕ) → fitting memory at bytes ≡ [] → (at, memory) ≡ laid memory at bytes
  unfolding laid
  none_laid bytes e =
      let same : at ≡ at + 0 = omega arith in
      (λ i. (same i, over_nothing memory at i)) ∙ ap (written memory at) (sym e)

  pub nothing_laid : (at, memory) ≡ laid memory at []
  nothing_laid = none_laid [] (take-nil (length memory - at))

  pub no_room_lem : (bytes : List ℕ) → length memory ≤ at → (at, memory) ≡ laid memory at bytes
  no_room_lem bytes h =
      let e : length memory - at ≡ 0 = omega arith in
      none_laid bytes (ap (λ (n : ℕ). take n bytes) e)

  -- ---- one byte

  stored : (byte : ℕ) → at < length memory → set memory at byte ≡ over memory at (byte ∷ [])
  unfolding over
  stored byte h =
      set_split memory at byte h
      ∙ sym (append_snoc (take at memory) byte (drop (suc at) memory))
      ∙ ap (λ (n : ℕ). take at memory ++ (byte ∷ []) ++ drop n memory) (sym (add-one at))

  pub one_laid : (byte : ℕ) → at < length memory → (at + 1, set memory at byte) ≡ laid memory at (byte ∷ [])
  unfolding laid
  one_laid byte h =
      let all : fitting memory at (byte ∷ []) ≡ byte ∷ [] = take_all (length memory - at) (byte ∷ []) (omega arith) in
      (λ i. (at + 1, stored byte h i)) ∙ ap (written memory at) (sym all)

-- ---- some bytes, then others

-- as many as fit of the first, then of the second as many as fit behind them
fitting_then : (n : ℕ) (xs ys : List ℕ) → take n xs ++ take (n - length (take n xs)) ys ≡ take n (xs ++ ys)
fitting_then zero xs ys = refl
fitting_then (suc n) [] ys = let all : suc n - 0 ≡ suc n = omega arith in ap (λ (k : ℕ). take k ys) all
fitting_then (suc n) (x ∷ xs) ys =
    let left : suc n - suc (length (take n xs)) ≡ n - length (take n xs) = omega arith in
    ap (λ (k : ℕ). x ∷ take n xs ++ take k ys) left ∙ ap (λ (l : List ℕ). x ∷ l) (fitting_then n xs ys)

module _ (memory : List ℕ) (at : ℕ) (ys : List ℕ) where
  -- behind bytes for which there was room
  behind : (first : List ℕ) → at + length first ≤ length memory → (left : ℕ) → left ≡ length memory - at - length first
      → laid (over memory at first) (at + length first) ys ≡ written memory at (first ++ take left ys)
  unfolding laid
  behind first room left e =
      let same : length (over memory at first) - (at + length first) ≡ left = omega (arith, length_over memory at first room) in
      let count : at + length first + length (take left ys) ≡ at + length (first ++ take left ys) =
      omega (arith, length-append first (take left ys)) in
      ap (λ (n : ℕ). written (over memory at first) (at + length first) (take n ys)) same
      ∙ (λ i. (count i, over_over memory at first room (take left ys) i))

  -- behind any bytes
  module _ (xs : List ℕ) where
    abbrev InOne : Type 0
    InOne = laid (laid memory at xs).1 (laid memory at xs).0 ys ≡ laid memory at (xs ++ ys)

    with_room : at ≤ length memory → InOne
    unfolding laid
    with_room h =
        let n : ℕ = length memory - at in
        let room : at + length (take n xs) ≤ length memory = omega (arith, length-take n xs) in
        behind (take n xs) room (n - length (take n xs)) refl ∙ ap (written memory at) (fitting_then n xs ys)

    without_room : length memory ≤ at → InOne
    without_room h =
        ap (λ (z : ℕ × List ℕ). laid z.1 z.0 ys) (sym (no_room_lem memory at xs h))
        ∙ sym (no_room_lem memory at ys h)
        ∙ no_room_lem memory at (xs ++ ys) h

    laid_both : InOne
    laid_both = go (leb at (length memory)) refl
      where
        go : (b : Bool) → leb at (length memory) ≡ b → InOne
        go true e = with_room (leb-true at (length memory) e)
        go false e = let above : length memory < at = leb-false at (length memory) e in without_room (omega arith)

module _ (memory : List ℕ) (at : ℕ) (xs : List ℕ) where
  -- what is laid behind them is laid with them
  pub laid_then : {memory' : List ℕ} {end : ℕ} → (end, memory') ≡ laid memory at xs → (ys : List ℕ) {z : ℕ × List ℕ}
      → z ≡ laid memory' end ys → z ≡ laid memory at (xs ++ ys)
  laid_then first ys second = second ∙ ap (λ (z : ℕ × List ℕ). laid z.1 z.0 ys) first ∙ laid_both memory at ys xs

  -- the same bytes, in other words
  pub laid_same : {ys : List ℕ} → xs ≡ ys → {z : ℕ × List ℕ} → z ≡ laid memory at xs → z ≡ laid memory at ys
  laid_same e put = put ∙ ap (laid memory at) e

  -- where there is room, all of them are
  pub all_fit : at + length xs ≤ length memory → laid memory at xs ≡ written memory at xs
  unfolding laid
  all_fit room = ap (written memory at) (take_all (length memory - at) xs (omega arith))

-- ---- loops: what is laid so far, then the rest from here, is the whole

module _ (memory : List ℕ) (at : ℕ) (rest : List ℕ) (whole : ℕ × List ℕ) (inv : laid memory at rest ≡ whole) where
  pub goes_on : (xs ys : List ℕ) → rest ≡ xs ++ ys → (memory' : List ℕ) (end : ℕ) → (end, memory') ≡ laid memory at xs
      → laid memory' end ys ≡ whole
  goes_on xs ys parts memory' end e = laid_then memory at xs e ys refl ∙ ap (laid memory at) (sym parts) ∙ inv

  pub all_laid : rest ≡ [] → (at, memory) ≡ whole
  all_laid none = nothing_laid memory at ∙ ap (laid memory at) (sym none) ∙ inv
