-- What a listing says and leaves, for each way out of the call. Assumes nothing.
use mathlib.Core.List.{List}
use mathlib.Core.Path.{◌≡◌, ap, ◌∙◌}
use Prim.Native.Nat.{ℕ, ◌≤◌, ◌<◌}
use native.Mathlib.Omega.{arith}
use lib.ListN.{length}
use borrow.Author.Tests.{eq-eqb, ne_eqb, le-leb, lt-leb}
use Rattle.refusals.specs.Answer.{Done, Refused}
use Rattle.refusals.specs.Memory.{over}
use Rattle.refusals.specs.Table.{argument}
use Rattle.refusals.proofs.Pick.{at_true, at_false}
use Rattle.page.specs.Page.{laid}
use Rattle.page.proofs.Laying.{all_fit}
use Rattle.lines.specs.Text.{refused_line}
use Rattle.record_lines.specs.Records.{said}
use Rattle.walk.specs.Walk.{origin}
use Rattle.listing.specs.Listing.{listed}
use Rattle.listing.specs.Call.{listing, list_of}
use Rattle.listing.proofs.Lengths.{listing_short}

-- ---- the arguments

module _ (tape : List ℕ) (initial : ℕ) where
  pub too_long : 65536 < length tape → refused_line argument 0 ≡ listing tape initial
  unfolding listing
  too_long l = rw (lt-leb (length tape) 65536 l)

  module _ (fits : length tape ≤ 65536) where
    pub too_high : 65536 < initial → refused_line argument 0 ≡ listing tape initial
    unfolding listing
    too_high l = rw (le-leb (length tape) 65536 fits, lt-leb initial 65536 l)

    pub allowed : initial ≤ 65536 → said (listed tape (origin initial)) ≡ listing tape initial
    unfolding listing
    allowed low = rw (le-leb (length tape) 65536 fits, le-leb initial 65536 low)

  -- ---- the call

  module _ (text : List ℕ) where
    pub other_length : (length text ≡ 1310740 → ⊥) → (Refused argument, text) ≡ list_of tape initial text
    unfolding list_of
    other_length d = at_false (Done (length (listing tape initial)), over text 0 (listing tape initial)) _ (ne_eqb (length text) 1310740 d)

    pub that_length : length text ≡ 1310740 → {text' : List ℕ} {end : ℕ} → (end, text') ≡ laid text 0 (listing tape initial)
        → (Done end, text') ≡ list_of tape initial text
    unfolding list_of
    that_length e {text'} {end} put =
        let all = put ∙ all_fit text 0 (listing tape initial) (omega (arith, e, listing_short tape initial)) in
        let long : end ≡ length (listing tape initial) = omega (arith, ap (λ (z : ℕ × List ℕ). z.0) all) in
        let there : text' ≡ over text 0 (listing tape initial) = ap (λ (z : ℕ × List ℕ). z.1) all in
        (λ i. (Done (long i), there i)) ∙ at_true _ (Refused argument, text) (eq-eqb (length text) 1310740 e)
