-- A text read byte by byte: what its next byte is to each definition of its parts. Assumes nothing.
use mathlib.Core.Bool.{Bool, true, false, cond, not}
use mathlib.Core.List.{List, [], ◌∷◌}
use mathlib.Core.Path.{◌≡◌, refl, sym, ap, ◌∙◌}
use Prim.Native.Nat.{ℕ, suc, ◌+◌, ◌-◌, ◌≤◌, ◌<◌}
use native.Mathlib.Omega.{arith}
use lib.Dec.{eqb, ltb}
use lib.ListN.{length, take, drop, length-drop}
use lib.Seq.{take_all}
use borrow.Author.Tests.{ltb-false}
use Rattle.refusals.specs.Answer.{pick}
use Rattle.std.specs.Prelude.{Some, None, position}
use Rattle.std.specs.List.{position_or_len}
use Rattle.refusals.proofs.Never.{never}
use Rattle.script.specs.Parts.{until, behind, from}

-- ---- a part of a text

-- from an offset on, as the code takes it
pub all_from : (text : List ℕ) (at : ℕ) → take (length text - at) (drop at text) ≡ drop at text
all_from text at = take_all (length text - at) (drop at text) (omega (arith, length-drop at text))

module _ (mark : ℕ) where
  abbrev pub is_mark : ℕ → Bool
  is_mark c = eqb c mark

  -- how many bytes stand before the first mark
  abbrev before : List ℕ → ℕ
  before text = position_or_len is_mark text

  one_more : (n : ℕ) → 1 + n ≡ suc n
  one_more n = omega arith

  take_before : (text : List ℕ) → take (before text) text ≡ until mark text
  take_before [] = refl
  take_before (c ∷ cs) = go (eqb c mark) (take_before cs)
    where
      go : (b : Bool) → take (before cs) cs ≡ until mark cs
          → take (cond (not b) (1 + before cs) 0) (c ∷ cs) ≡ pick b [] (c ∷ until mark cs)
      go true e = refl
      go false e = ap (λ (n : ℕ). take n (c ∷ cs)) (one_more (before cs)) ∙ ap (λ (l : List ℕ). c ∷ l) e

  -- ---- where the first mark stands

  module _ (text : List ℕ) where
    none_before : None ≡ position is_mark text → length text ≤ before text
    none_before = go (ltb (before text) (length text)) refl
      where
        go : (b : Bool) → ltb (before text) (length text) ≡ b → None ≡ cond b (Some (before text)) None → length text ≤ before text
        go true e h = never (cc)
        go false e h = ltb-false _ _ e

    some_before : {at : ℕ} → Some at ≡ position is_mark text → at ≡ before text
    some_before {at} = go (ltb (before text) (length text))
      where
        go : (b : Bool) → Some at ≡ cond b (Some (before text)) None → at ≡ before text
        go true h = cc
        go false h = never (cc)

    -- nowhere
    pub all_until : None ≡ position is_mark text → text ≡ until mark text
    all_until h = sym (take_all _ _ (none_before h)) ∙ take_before text

    -- here
    pub until_mark : {at : ℕ} → Some at ≡ position is_mark text → take at text ≡ until mark text
    until_mark h = ap (λ (n : ℕ). take n text) (some_before h) ∙ take_before text

  -- ---- behind some of the marks, behind the next one

  pub next_mark : (text : List ℕ) (count i : ℕ) → i < count → from mark (count - i) text ≡ from mark (count - (i + 1)) (behind mark text)
  next_mark text count i h = let e : count - i ≡ suc (count - (i + 1)) = omega arith in ap (λ (k : ℕ). from mark k text) e
