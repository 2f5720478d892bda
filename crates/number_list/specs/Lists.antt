-- Number lists: one number for each label and constant of a tape. Document 01: "Number lists are in tape order". Assumes nothing: these
-- are definitions.
use Rattle.std.specs.Prelude.{ℕ, ◌+◌, List, [], ◌∷◌, ◌++◌, ℤ, pos, get_or, drop, None, Some}
use Rattle.form.specs.Statements.{What, Instruction, Open, Close, Label, Constant, SetPlace, Byte, Word, Screen, Statement}
use Rattle.walk.specs.Walk.{names_in}
use Rattle.walk.specs.Values.{Values}

-- ---- how many numbers a list has

-- for a statement: one for a label, and one for a constant
abbrev pub counts : What → ℕ
counts (Label id) = 1
counts (Constant id) = 1
counts (Open id) = 0
counts Close = 0
counts (Instruction mnemonic mode suffix) = 0
counts SetPlace = 0
counts Byte = 0
counts Word = 0
counts (Screen petscii) = 0

-- for all of them
abbrev pub count : List Statement → ℕ
count [] = 0
count (x ∷ xs) = counts x.says + count xs

-- ---- from a list to the names

-- the value of the name a statement declares: a label or a constant takes the next number of the list, a scope takes none
abbrev pub valued : What → List ℤ → Values
valued (Label id) l = Some (get_or l 0 (pos 0)) ∷ []
valued (Constant id) l = Some (get_or l 0 (pos 0)) ∷ []
valued (Open id) l = None ∷ []
valued Close l = []
valued (Instruction mnemonic mode suffix) l = []
valued SetPlace l = []
valued Byte l = []
valued Word l = []
valued (Screen petscii) l = []

-- the values of all names, by a list
abbrev pub values_of : List Statement → List ℤ → Values
values_of [] l = []
values_of (x ∷ xs) l = valued x.says l ++ values_of xs (drop (counts x.says) l)

-- ---- from the names to a list

-- the number that a statement adds to the list, where the names from it on have these: that of a label and of a constant
abbrev pub listed : What → List ℤ → List ℤ
listed (Label id) l = get_or l 0 (pos 0) ∷ []
listed (Constant id) l = get_or l 0 (pos 0) ∷ []
listed (Open id) l = []
listed Close l = []
listed (Instruction mnemonic mode suffix) l = []
listed SetPlace l = []
listed Byte l = []
listed Word l = []
listed (Screen petscii) l = []

-- the list, where the names have these numbers
abbrev pub number_list : List Statement → List ℤ → List ℤ
number_list [] l = []
number_list (x ∷ xs) l = listed x.says l ++ number_list xs (drop (names_in x.says) l)
