-- The manual counted. Document 01: "114 rows of mnemonic, mode and suffix give all 151 documented opcodes, no opcode twice;
-- 37 rows have a one-byte and a two-byte operand form". Assumes nothing: these are definitions.
use Rattle.std.specs.Prelude.{◌≡◌, Bool, false, ◌||◌, List, [], ◌∷◌, ◌++◌, map, ℕ, zero, suc, ◌+◌, ◌/◌, ◌%◌, eqb, length}
use Rattle.refusals.specs.Answer.{pick}
use Rattle.opcodes.specs.declared.Form.{Form}
use Rattle.opcodes.specs.Manual.{forms_of}

-- what f gives below n, the last first
abbrev pub below : {A : Type 0} → (ℕ → A) → ℕ → List A
below f zero = []
below f (suc n) = f n ∷ below f n

-- of the k-th of the 56 x 5 x 3 = 840 triples of a mnemonic, a mode and a suffix
abbrev pub triple : {A : Type 0} → (ℕ → ℕ → ℕ → A) → ℕ → A
triple f k = f (k / 15) (k / 3 % 5) (k % 3)

-- how many of these lists have n elements
abbrev pub of_length : {A : Type 0} → ℕ → List (List A) → ℕ
of_length n [] = 0
of_length n (l ∷ ls) = pick (eqb (length l) n) 1 0 + of_length n ls

-- the opcodes of these rows' forms
abbrev pub opcodes : List (List Form) → List ℕ
opcodes [] = []
opcodes (fs ∷ rows) = map (λ (f : Form). f.opcode) fs ++ opcodes rows

abbrev pub is_in : ℕ → List ℕ → Bool
is_in x [] = false
is_in x (y ∷ ys) = eqb x y || is_in x ys

-- how many stand again behind themselves
abbrev pub repeated : List ℕ → ℕ
repeated [] = 0
repeated (x ∷ xs) = pick (is_in x xs) 1 0 + repeated xs

pub record Census : Type 0 where
  pub rows : ℕ
  pub opcodes : ℕ
  pub twice : ℕ
  pub two_forms : ℕ

abbrev pub counted : List (List Form) → Census
counted rows = record {
  rows = of_length 1 rows + of_length 2 rows;
  opcodes = length (opcodes rows);
  twice = repeated (opcodes rows);
  two_forms = of_length 2 rows;
}

-- over all triples
abbrev pub Counted : Type 0
Counted = counted (below (triple forms_of) 840) ≡ record { rows = 114; opcodes = 151; twice = 0; two_forms = 37 }
