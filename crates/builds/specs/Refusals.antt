-- The numbers with which a build can be refused whose arguments are in their ranges. 13 is not among them: the last walk reads numbers
-- that a pass gave back, so no label is elsewhere. Assumes nothing: this is a definition.
use Rattle.std.specs.Prelude.{ℕ, List, [], ◌∷◌}
use Rattle.refusals.specs.Table.{no_room, name_taken, bad_record, no_row, cut_short, unpaired, too_deep}
use Rattle.refusals.specs.Table.{arithmetic, unresolved, too_small, too_far, outside, not_settled}

abbrev pub refusals : List ℕ
refusals =
    no_room ∷ name_taken ∷ bad_record ∷ no_row ∷ cut_short ∷ unpaired ∷ too_deep ∷ arithmetic ∷ unresolved ∷ too_small ∷ too_far ∷ outside ∷
    not_settled ∷ []
