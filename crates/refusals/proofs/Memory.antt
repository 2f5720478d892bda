-- What it means to write over a part of lent memory, and to fill it. Assumes nothing.
use mathlib.Core.Path.{◌≡◌, refl, sym, ap, ◌∙◌}
use mathlib.Core.List.{List, [], ◌∷◌, ◌++◌, append_assoc, append-nil}
use Prim.Native.Nat.{ℕ, zero, suc, ◌+◌, ◌-◌, ◌<◌, ◌≤◌}
use native.Mathlib.Nat.{le_antisymm}
use native.Mathlib.Numerals.{add-one}
use native.Mathlib.Omega.{arith}
use lib.ListN.{length, take, drop, get_or, set, replicate, length-append, length-drop, take-append-drop, get_or-append}
use lib.Seq.{take_at, drop_at, drop-drop, get_or-take, get_or-drop, get_or-append-add, length-take-le}
use Rattle.refusals.specs.Memory.{over}

module _ (m : List ℕ) (at : ℕ) where
  -- nothing is written
  pub over_nothing : m ≡ over m at []
  unfolding over
  over_nothing =
      let e : at + 0 ≡ at = omega arith in
      sym (ap (λ (k : ℕ). take at m ++ [] ++ drop k m) e ∙ ap (λ (l : List ℕ). l ++ drop at m) (append-nil (take at m)) ∙ take-append-drop at m)

  module _ (xs : List ℕ) (room : at + length xs ≤ length m) where
    -- what was written, with what is before it
    length_head : length (take at m ++ xs) ≡ at + length xs
    length_head = length-append (take at m) xs ∙ ap (λ (k : ℕ). k + length xs) (length-take-le at m (omega arith))

    take_over : take (at + length xs) (over m at xs) ≡ take at m ++ xs
    unfolding over
    take_over = take_at (take at m ++ xs) (drop (at + length xs) m) (at + length xs) length_head

    pub drop_over : drop (at + length xs) (over m at xs) ≡ drop (at + length xs) m
    unfolding over
    drop_over = drop_at (take at m ++ xs) (drop (at + length xs) m) (at + length xs) length_head

    -- the memory is as long as it was
    pub length_over : length (over m at xs) ≡ length m
    unfolding over
    length_over =
        length-append (take at m ++ xs) (drop (at + length xs) m)
        ∙ (λ i. length_head i + length-drop (at + length xs) m i)
        ∙ omega arith

    -- behind it, all is as it was
    pub get_or_over : (k : ℕ) → at + length xs ≤ k → get_or (over m at xs) k 0 ≡ get_or m k 0
    get_or_over k h =
        let e : at + length xs + (k - (at + length xs)) ≡ k = omega arith in
        ap (λ (n : ℕ). get_or (over m at xs) n 0) (sym e)
        ∙ sym (get_or-drop (at + length xs) (over m at xs) (k - (at + length xs)) 0)
        ∙ ap (λ (l : List ℕ). get_or l (k - (at + length xs)) 0) drop_over
        ∙ get_or-drop (at + length xs) m (k - (at + length xs)) 0
        ∙ ap (λ (n : ℕ). get_or m n 0) e

    -- what is written behind it is one writing with it
    pub over_over : (ys : List ℕ) → over (over m at xs) (at + length xs) ys ≡ over m at (xs ++ ys)
    unfolding over
    over_over ys =
        let n : ℕ = at + length xs in
        let e : n + length ys ≡ at + length (xs ++ ys) = omega (arith, length-append xs ys) in
        (λ i. take_over i ++ ys ++ drop (n + length ys) (over m at xs))
        ∙ ap (λ (l : List ℕ). take at m ++ xs ++ ys ++ l) (sym (drop-drop (length ys) n (over m at xs)) ∙ ap (drop (length ys)) drop_over ∙ drop-drop (length ys) n m)
        ∙ ap (λ (l : List ℕ). l ++ drop (n + length ys) m) (append_assoc (take at m) xs ys)
        ∙ ap (λ (k : ℕ). take at m ++ (xs ++ ys) ++ drop k m) e

module _ (m : List ℕ) (at : ℕ) (xs : List ℕ) (room : at ≤ length m) where
  -- before them, all is as it was
  pub over_before : (a : ℕ) → a < at → get_or (over m at xs) a 0 ≡ get_or m a 0
  unfolding over
  over_before a l =
      ap (λ (k : List ℕ). get_or k a 0) (append_assoc (take at m) xs (drop (at + length xs) m))
      ∙ get_or-append (take at m) (xs ++ drop (at + length xs) m) 0 a (omega (arith, length-take-le at m room))
      ∙ get_or-take at m a 0 l

  -- then they stand there
  pub over_at : (k : ℕ) → k < length xs → get_or (over m at xs) (at + k) 0 ≡ get_or xs k 0
  unfolding over
  over_at k l =
      ap (λ (z : List ℕ). get_or z (at + k) 0) (append_assoc (take at m) xs (drop (at + length xs) m))
      ∙ ap (λ (n : ℕ). get_or (take at m ++ (xs ++ drop (at + length xs) m)) (n + k) 0) (sym (length-take-le at m room))
      ∙ get_or-append-add (take at m) (xs ++ drop (at + length xs) m) k 0
      ∙ get_or-append xs (drop (at + length xs) m) 0 k l

-- zeros are zero, past their end too
pub get_or_zeros : (n a : ℕ) → get_or {A = ℕ} (replicate n 0) a 0 ≡ 0
get_or_zeros zero a = refl
get_or_zeros (suc n) zero = refl
get_or_zeros (suc n) (suc a) = get_or_zeros n a

-- ---- the same at every place, written from the first on

module _ {A : Type 0} where
  -- the first i places hold x, the rest is as it was
  pub filled : A → List A → ℕ → List A
  filled x xs i = replicate i x ++ drop i xs

  pub filled_none : (x : A) (xs : List A) → xs ≡ filled x xs 0
  unfolding filled
  filled_none x [] = refl
  filled_none x (y ∷ ys) = refl

  filled_suc : (x : A) (xs : List A) (i : ℕ) → i < length xs → set (filled x xs i) i x ≡ filled x xs (suc i)
  unfolding filled
  filled_suc x [] i h = absurd (omega arith)
  filled_suc x (y ∷ ys) zero h = refl
  filled_suc x (y ∷ ys) (suc i) h = ap (λ (l : List A). x ∷ l) (filled_suc x ys i (omega arith))

  filled_all : (x : A) (xs : List A) → filled x xs (length xs) ≡ replicate (length xs) x
  unfolding filled
  filled_all x [] = refl
  filled_all x (y ∷ ys) = ap (λ (l : List A). x ∷ l) (filled_all x ys)

  module _ (x : A) (before now : List A) (i : ℕ) (e : now ≡ filled x before i) where
    pub filled_more : i < length before → set now i x ≡ filled x before (i + 1)
    filled_more h = ap (λ (l : List A). set l i x) e ∙ filled_suc x before i h ∙ ap (filled x before) (sym (add-one i))

    pub filled_whole : i ≤ length before → length before ≤ i → now ≡ replicate (length before) x
    filled_whole h g = e ∙ ap (filled x before) (le_antisymm h g) ∙ filled_all x before
