-- What the search leaves. Assumes nothing.
use mathlib.Core.Path.{refl, ap}
use lib.ListN.{drop_of_length-le}
use Rattle.std.specs.Prelude.{ℕ, ◌<◌, Option, None, Some, IfSome}
use Rattle.page.specs.Page.{following, bytes_behind, bytes_in}
use Rattle.page.proofs.Laying.{goes_on, all_laid}
use Rattle.page.proofs.Rests.{next_pair}
use Rattle.page.proofs.put_hex.Goals as goal

-- the digit before the next one is small, where this one is
small_next : (high low : Option ℕ) → IfSome low (λ d. d < 16) → IfSome (following high low) (λ d. d < 16)
small_next None low h = h
small_next (Some d) low h = tt

pub loop-letter-init : goal.loop-letter-init
unfolding bytes_in
loop-letter-init c = record { small = tt; whole = refl }

pub loop-letter-preserved : goal.loop-letter-preserved
loop-letter-preserved c =
    let so_far = c.loop-letter in
    let parts = next_pair _ _ _ _ _ c.loop-letter-test.true c.digit-low.ensures.value c.next_high-high.ensures in
    record {
      small = rw c.next_high-high.ensures (small_next so_far.high _ c.digit-low.ensures.small);
      whole = goes_on _ _ _ _ so_far.invariant.whole _ _ parts _ _ c.put_pair-at.ensures;
    }

pub returns : goal.returns
returns c =
    let at_end = c.loop-letter in
    all_laid _ _ _ _ at_end.invariant.whole (ap (bytes_behind at_end.high) (drop_of_length-le _ c.loop-letter-test.false))
