-- Numbers in digits: how many there are, and what is put, digit by digit. Assumes nothing.
use mathlib.Core.Bool.{Bool, true, false, ◌&&◌}
use mathlib.Core.List.{List, [], ◌∷◌, ◌++◌}
use mathlib.Core.Path.{◌≡◌, sym, ap, ◌∙◌}
use Prim.Native.Nat.{ℕ, zero, suc, ◌-◌, ◌/◌, ◌%◌, ◌≤◌}
use native.Mathlib.Omega.{arith}
use lib.Dec.{ltb, leb}
use lib.ListN.{length, length-append}
use Rattle.refusals.specs.Answer.{pick}
use Rattle.refusals.proofs.Pick.{at_false}
use Rattle.hexadecimal.specs.Hex.{digit_of}
use Rattle.page.specs.Page.{laid}
use Rattle.page.proofs.Laying.{laid_then}
use Rattle.numerals.specs.Numerals.{numeral}

-- no more digits than are allowed
pub at_most : (base most least n : ℕ) → length (numeral base most least n) ≤ most
at_most base zero least n = omega arith
at_most base (suc most) least n = go (ltb n base && leb least 1) (at_most base most (least - 1) (n / base))
  where
    go : (t : Bool) → length (numeral base most (least - 1) (n / base)) ≤ most
        → length (pick t (digit_of n ∷ []) (numeral base most (least - 1) (n / base) ++ (digit_of (n % base) ∷ []))) ≤ suc most
    go true h = omega arith
    go false h = omega (arith, length-append (numeral base most (least - 1) (n / base)) (digit_of (n % base) ∷ []))

module _ (text : List ℕ) (at base most least n : ℕ) (some : most ≡ 0 → ⊥) {t : Bool} (is : t ≡ (ltb n base && leb least 1)) where
  high : List ℕ
  high = numeral base (most - 1) (least - 1) (n / base)

  digits : pick (ltb n base && leb least 1) (digit_of n ∷ []) (high ++ (digit_of (n % base) ∷ [])) ≡ numeral base most least n
  unfolding high
  digits = let one_more_lem : suc (most - 1) ≡ most = omega arith in ap (λ (k : ℕ). numeral base k least n) one_more_lem

  -- the digits of the quotient, then the remainder's
  pub digit_behind : t ≡ false → {less : ℕ} → less ≡ least - 1 → {text' : List ℕ} {end : ℕ}
      → (end, text') ≡ laid text at (numeral base (most - 1) less (n / base)) → {z : ℕ × List ℕ}
      → z ≡ laid text' end (digit_of (n % base) ∷ []) → z ≡ laid text at (numeral base most least n)
  unfolding high
  digit_behind h less first second =
      laid_then text at _ first _ second
      ∙ ap (laid text at)
      (ap (λ (k : ℕ). numeral base (most - 1) k (n / base) ++ (digit_of (n % base) ∷ [])) less
      ∙ at_false (digit_of n ∷ []) (high ++ (digit_of (n % base) ∷ [])) (sym is ∙ h)
      ∙ digits)
