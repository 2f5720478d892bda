-- What a call answered, by what `map_err` made of it. Assumes nothing.
use mathlib.Core.Path.{◌≡◌, refl, subst}
use Rattle.std.specs.Prelude.{Result, Ok, Err}
use Rattle.std.specs.Result.{MatchResult, IsErrAnd}
use Rattle.refusals.proofs.Never.{never}

-- r is what the call answered, m what it is mapped to, and P what the closure says of the error that it makes of another
module _ {A E D : Type 0} (r : Result A E) (m : Result A D) (P : E → D → Type 0)
    (cases : MatchResult r (λ x. m ≡ Ok x) (λ e. IsErrAnd m (P e))) where
  pub mapped_err : (f : D) → m ≡ Err f → (e : E) × (r ≡ Err e) × P e f
  mapped_err f is = go r cases
    where
      go : (r : Result A E) → MatchResult r (λ x. m ≡ Ok x) (λ e. IsErrAnd m (P e)) → (e : E) × (r ≡ Err e) × P e f
      go (Ok x) c = never (cc)
      go (Err e) c = (e, refl, subst (λ (y : Result A D). IsErrAnd y (P e)) is c)

  pub mapped_ok : (x : A) → m ≡ Ok x → r ≡ Ok x
  mapped_ok x is = go r cases
    where
      go : (r : Result A E) → MatchResult r (λ y. m ≡ Ok y) (λ e. IsErrAnd m (P e)) → r ≡ Ok x
      go (Ok y) c = cc
      go (Err e) c = let no = subst (λ (y : Result A D). IsErrAnd y (P e)) is c in absurd no
