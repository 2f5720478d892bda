-- Each public call allows one answer: the law of `refusals`, applied to each call's own contract. Assumes nothing.
use mathlib.Core.Path.{◌≡◌, refl}
use mathlib.Core.List.{List, [], ◌∷◌}
use Rattle.std.specs.Prelude.{Option, None, Some}
use Rattle.refusals.specs.Says.{says}
use Rattle.refusals.proofs.Unique.{OneResult, told_apart}
use Rattle.refusals.proofs.One.{back, back_says}
use Rattle.inverse.specs.declared.Row.{Row}
use Rattle.inverse.specs.Says.{listed}
use Rattle.inverse.proofs.row_of.Reads as row_of
use Rattle.inverse.proofs.decode.Reads as decode

-- ---- the row that is listed so

abbrev unlisted : List Row → Option Row
unlisted [] = None
unlisted (r ∷ rs) = Some r

unlisted_listed : (x : Option Row) → unlisted (listed x) ≡ x
unlisted_listed None = refl
unlisted_listed (Some r) = refl

-- ---- the calls

pub row_of_one : OneResult row_of.Post
row_of_one k a x y e f p q = told_apart listed unlisted unlisted_listed p q

pub decode_one : OneResult decode.Post
decode_one k a x y e f p q = told_apart says back back_says p q
