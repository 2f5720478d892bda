-- `branch::distance_of` meets its contract: two off the way from the place is the offset. Assumes nothing.
use Rattle.std.proofs.Common.{ℤ, pos, ◌-ℤ◌, ◌∙◌, ap, to_z-of_z, w64, rules}
use mir.Val.{SFits}
use Rattle.branch.specs.Branch.{byte_of}
use Rattle.branch.proofs.Branch.{two_off}
use Rattle.branch.proofs.distance_of.Goals as goal

pub returns-in-Ok : goal.returns-in-Ok
returns-in-Ok c =
    let ahead : SFits w64 c.in-Ok.ahead = search rules in
    let difference = rw (to_z-of_z c.ranges.target, to_z-of_z c.ranges.place) at c.in-Ok.ensures in
    c.from_place.ensures ∙ ap (λ (z : ℤ). byte_of (z -ℤ pos 2)) (to_z-of_z ahead) ∙ two_off _ _ _ difference
