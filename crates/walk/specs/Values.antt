-- The numbers of a tape's names, and what a walk reads with them. Assumes nothing: these are definitions.
use Rattle.std.specs.Prelude.{ℕ, zero, suc, ◌+◌, Bool, true, false, ◌&&◌, List, [], ◌∷◌, ℤ, get_or, Option, None, Some}
use Rattle.refusals.specs.Answer.{pick}
use Rattle.int64.specs.Num.{eq_z}
use Rattle.form.specs.Statements.{Statement, is_followed}
use Rattle.evaluator.specs.Expression.{Value, Number, Unresolved, Refuses}
use Rattle.walk.specs.declared.Walk.{Walk}
use Rattle.walk.specs.Walk.{here, names_in, step}

-- ---- numbers

-- of each name of a tape, in tape order, its number, or that it is unresolved; a scope never has one
abbrev pub Values : Type 0
Values = List (Option ℤ)

-- the number of a node: declaration k is node k, and the root has none
abbrev pub numbered : Values → ℕ → Option ℤ
numbered L zero = None
numbered L (suc k) = get_or L k None

-- "A refused expression counts as unresolved"
abbrev pub number_of : Value → Option ℤ
number_of (Number z) = Some z
number_of (Unresolved at) = None
number_of (Refuses n at) = None

-- how many names the statements declare
abbrev pub declarations : List Statement → ℕ
declarations [] = 0
declarations (x ∷ xs) = names_in x.says + declarations xs

-- ---- equality

-- "unresolved" equals "unresolved"
abbrev pub eq_value : Option ℤ → Option ℤ → Bool
eq_value None None = true
eq_value None (Some b) = false
eq_value (Some a) None = false
eq_value (Some a) (Some b) = eq_z a b

-- two lists, by a test of their elements
abbrev pub same : {A : Type 0} → (A → A → Bool) → List A → List A → Bool
same eq [] [] = true
same eq [] (b ∷ bs) = false
same eq (a ∷ as') [] = false
same eq (a ∷ as') (b ∷ bs) = eq a b && same eq as' bs

-- ---- what a walk reads

-- reads: what the expression at an offset comes to, where the nodes have these numbers, at a place
module _ (reads : (ℕ → Option ℤ) → ℤ → ℕ → Value) where
  -- the expression of a statement, where the walk is
  abbrev pub value_at : (ℕ → Option ℤ) → Walk → Statement → Value
  value_at numbers w x = pick (is_followed x.says) (reads numbers (here w) x.expression) (Unresolved x.expression)

  -- what the walk w reads there
  abbrev pub read_at : (ℕ → Option ℤ) → Walk → Statement → Option ℤ
  read_at numbers w x = number_of (value_at numbers w x)

  -- the walk behind a statement
  abbrev pub step_at : (ℕ → Option ℤ) → Walk → Statement → Walk
  step_at numbers w x = step w x.says (read_at numbers w x)
