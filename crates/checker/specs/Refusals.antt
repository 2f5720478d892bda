-- The numbers with which a check can be refused whose arguments are in their ranges. Assumes nothing: this is a definition.
use Rattle.std.specs.Prelude.{ℕ, List, [], ◌∷◌}
use Rattle.refusals.specs.Table.{no_room, name_taken, bad_record, no_row, cut_short, unpaired, too_deep}
use Rattle.refusals.specs.Table.{arithmetic, unresolved, too_small, too_far, outside, number_differs, bytes_differ}

abbrev pub refusals : List ℕ
refusals =
    no_room ∷ name_taken ∷ bad_record ∷ no_row ∷ cut_short ∷ unpaired ∷ too_deep ∷ arithmetic ∷ unresolved ∷ too_small ∷ too_far ∷ outside ∷
    number_differs ∷ bytes_differ ∷ []
