-- Text as the ASCII codes of its characters. Assumes nothing: this is a definition.
use Rattle.std.specs.Prelude.{ℕ, List, [], ◌∷◌}
use Prim.Native.Char.{code}
use Prim.Native.String.{String, [] as none, ◌∷◌ as ◌then◌}

-- the codes of a text
abbrev pub ascii : String → List ℕ
ascii none = []
ascii (c then cs) = code c ∷ ascii cs
