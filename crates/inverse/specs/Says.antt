-- The rows of an opcode, of which there is at most one, as a list. Assumes nothing: this is a definition.
use Rattle.std.specs.Prelude.{List, [], ◌∷◌, Option, None, Some}
use Rattle.inverse.specs.declared.Row.{Row}

abbrev pub listed : Option Row → List Row
listed None = []
listed (Some r) = r ∷ []
