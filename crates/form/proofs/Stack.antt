-- A list that lies in an array from a place on, without its first element. Assumes nothing.
use mathlib.Core.List.{List, []}
use mathlib.Core.Path.{◌≡◌, sym}
use Prim.Native.Nat.{ℕ, ◌+◌, ◌≤◌}
use native.Mathlib.Omega.{arith}
use lib.ListN.{length, drop, drop_of_length-le}
use lib.Seq.{drop-drop}

pub pop : (l : List ℕ) (n : ℕ) → drop (n + 1) l ≡ drop 1 (drop n l)
pop l n = sym (drop-drop 1 n l)

-- of an array of k places
module _ (l : List ℕ) (n k : ℕ) (size : length l ≡ k) where
  pub past : k ≤ n → drop n l ≡ []
  past h = let b : length l ≤ n = omega arith in drop_of_length-le l b

  pub pop_past : k ≤ n → drop n l ≡ drop 1 (drop n l)
  pop_past h = rw (past h)
