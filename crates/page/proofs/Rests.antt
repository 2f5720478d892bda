-- What is left to lay, taken apart: what the next turn lays, then the rest. Assumes nothing.
use Rattle.std.specs.Prelude.{Option}
use mathlib.Core.List.{List, [], ◌∷◌, ◌++◌}
use mathlib.Core.Path.{◌≡◌, sym, ap, ◌∙◌}
use Prim.Native.Nat.{ℕ, suc, ◌+◌, ◌-◌, ◌<◌}
use native.Mathlib.Numerals.{add-one}
use native.Mathlib.Omega.{arith}
use lib.ListN.{length, get_or, drop}
use lib.Seq.{drop-cons}
use Rattle.page.specs.Page.{repeated, digit_in, pair, following, bytes_behind}

-- of bytes, the next one
pub next_byte : (bytes : List ℕ) (i : ℕ) → i < length bytes → drop i bytes ≡ (get_or bytes i 0 ∷ []) ++ drop (i + 1) bytes
next_byte bytes i h = drop-cons bytes i 0 h ∙ ap (λ (n : ℕ). get_or bytes i 0 ∷ drop n bytes) (sym (add-one i))

-- of bytes that are laid so often, the bytes once
pub next_time : (bytes : List ℕ) (times i : ℕ) → i < times → repeated (times - i) bytes ≡ bytes ++ repeated (times - (i + 1)) bytes
next_time bytes times i h = let e : times - i ≡ suc (times - (i + 1)) = omega arith in ap (λ (k : ℕ). repeated k bytes) e

-- of a text, what its next letter makes
pub next_pair : (text : List ℕ) (i : ℕ) (high low high' : Option ℕ) → i < length text → low ≡ digit_in (get_or text i 0)
    → high' ≡ following high low → bytes_behind high (drop i text) ≡ pair high low ++ bytes_behind high' (drop (i + 1) text)
next_pair text i high low high' h is next =
    ap (bytes_behind high) (next_byte text i h)
    ∙ ap (λ (d : Option ℕ). pair high d ++ bytes_behind (following high d) (drop (i + 1) text)) (sym is)
    ∙ ap (λ (d : Option ℕ). pair high low ++ bytes_behind d (drop (i + 1) text)) (sym next)
