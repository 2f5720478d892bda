-- The public calls: what they answer and leave, of any tape and any list. Assumes nothing: these are definitions.
use Rattle.std.specs.Prelude.{ℕ, ◌-◌, List, [], ◌∷◌, ℤ, Option, map, take, drop}
use Rattle.edges.specs.Edges.{max_nodes}
use Rattle.symbols.specs.Symbols.{number_or0}
use Rattle.form.specs.Statements.{statements}
use Rattle.walk.specs.Numbers.{numbers_by}
use Rattle.number_list.specs.declared.ByNode.{ByNode}
use Rattle.number_list.specs.Lists.{count, values_of, number_list}

-- memory with a list written over it from its first place on: what has no room is left out
abbrev pub onto : {A : Type 0} → List A → List A → List A
onto [] l = []
onto (m ∷ ms) [] = m ∷ ms
onto (m ∷ ms) (a ∷ l) = a ∷ onto ms l

-- the list of a tape whose nodes have these numbers, where a node without one counts for 0: node 0 is the root, and the names follow
unfoldable pub gathered : (tape : List ℕ) (numbers : List (Option ℤ)) → List ℤ
gathered tape numbers = number_list (statements tape) (drop 1 (map number_or0 numbers))

-- how many numbers a list has for a tape, and the numbers by node that this list gives: those of the first 1,023 names
unfoldable pub spread_of : (tape : List ℕ) (list : List ℤ) → ByNode
spread_of tape list = record {
  count = count (statements tape);
  numbers = numbers_by (take (max_nodes - 1) (values_of (statements tape) list));
}
