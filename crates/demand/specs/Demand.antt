-- Demand 3: when numbers, a start and bytes fit a tape from an initial place. A label has the number of the place where its record
-- stands, and a constant what its expression comes to if all names have these numbers; nothing is refused; and the bytes are what the
-- records leave in memory that was zero, where a later one goes over those before it, from the first byte written to the last.
-- Nothing here walks a tape and compares: a place is given by what stands before it, a byte by the last record that writes there.
-- Assumes nothing: these are definitions.
use Rattle.std.specs.Prelude.{ℕ, ◌+◌, ◌-◌, ◌≤◌, ◌<◌, List, [], ◌∷◌, ◌≡◌, ℤ, pos, length, get_or, take, Option}
use Rattle.refusals.specs.AnswerAt.{Fine, part}
use Rattle.pen.specs.Pens.{size}
use Rattle.symbols.specs.declared.SymbolTable.{SymbolTable}
use Rattle.form.specs.Form.{max_tape}
use Rattle.form.specs.Statements.{Close, Label, Constant, Statement, statements}
use Rattle.evaluator.specs.Expression.{Value, Number}
use Rattle.names.specs.Names.{names_of}
use Rattle.walk.specs.declared.Walk.{Walk}
use Rattle.walk.specs.Walk.{Origin, origin, begin, here}
use Rattle.walk.specs.Values.{numbered, step_at}
use Rattle.compares.specs.Compared.{plain}
use Rattle.tries.specs.Tries.{try_at}
use Rattle.reads.specs.Reads.{reads_on}
use Rattle.number_list.specs.Lists.{count, values_of}

-- ---- what records write

-- bytes from an address on, perhaps none
pub record Write : Type 0 where
  pub from : ℕ
  pub bytes : List ℕ

abbrev pub until : Write → ℕ
until w = w.from + length w.bytes

-- n records, of which record i writes f i
module _ (n : ℕ) (f : ℕ → Write) where
  -- record i writes at the address a
  pub record Covers (i a : ℕ) : Type 0 where
    pub known : i < n
    pub from : (f i).from ≤ a
    pub until : a < until (f i)

  -- b is the byte at the address a: that of the last record that writes there, zero where none does
  pub record ByteAt (a b : ℕ) : Type 0 where
    pub last : (i : ℕ) → Covers i a → ((j : ℕ) → i < j → ¬ Covers j a) → b ≡ get_or (f i).bytes (a - (f i).from) 0
    pub none : ((i : ℕ) → ¬ Covers i a) → b ≡ 0

  -- record i writes a byte
  pub record Writing (i : ℕ) : Type 0 where
    pub known : i < n
    pub some : 0 < length (f i).bytes

  -- from the least start to the greatest end of those that write; "With no byte written, start is the initial place"
  pub record Spans (initial start end : ℕ) : Type 0 where
    pub inside : (i : ℕ) → Writing i → (start ≤ (f i).from) × (until (f i) ≤ end)
    pub first : (i : ℕ) → Writing i → (k : ℕ) × Writing k × ((f k).from ≡ start)
    pub last : (i : ℕ) → Writing i → (k : ℕ) × Writing k × (until (f k) ≡ end)
    pub none : ((i : ℕ) → ¬ Writing i) → (start ≡ initial) × (end ≡ initial)

-- ---- what stands before

-- a walk behind some statements, where the nodes have these numbers
abbrev pub behind : ((ℕ → Option ℤ) → ℤ → ℕ → Value) → (ℕ → Option ℤ) → Walk → List Statement → Walk
behind reads numbers w [] = w
behind reads numbers w (x ∷ xs) = behind reads numbers (step_at reads numbers w x) xs

-- statement i; past the end, one that says nothing
abbrev pub statement_at : List Statement → ℕ → Statement
statement_at xs i = get_or xs i (record { at = 0; says = Close; expression = 0 })

-- reads: what the expression at an offset comes to, where the nodes have these numbers, at a place; N: the number list
module _ (reads : (ℕ → Option ℤ) → ℤ → ℕ → Value) (xs : List Statement) (o : Origin) (N : List ℤ) where
  -- the number of each node, by the list
  abbrev pub numbers : ℕ → Option ℤ
  numbers = numbered (values_of xs N)

  -- where the walk is at statement i
  abbrev pub walk_at : ℕ → Walk
  walk_at i = behind reads numbers (begin o) (take i xs)

  -- the number that the list has for statement i, if that is a label or a constant
  abbrev pub own_at : ℕ → ℤ
  own_at i = get_or N (count (take i xs)) (pos 0)

  -- what statement i writes
  abbrev pub write_at : ℕ → Write
  write_at i = record { from = (walk_at i).place; bytes = part (try_at reads plain numbers (walk_at i) (statement_at xs i)) }

  -- ---- the demand

  pub record Right (i : ℕ) : Type 0 where
    -- the record is not refused, and has room
    pub fine : try_at reads plain numbers (walk_at i) (statement_at xs i) ≡ Fine (write_at i).bytes
    pub room : 0 < length (write_at i).bytes → until (write_at i) ≤ size
    -- a label's number is its place
    pub label : (id : ℕ) → (statement_at xs i).says ≡ Label id → own_at i ≡ here (walk_at i)
    -- a constant's number is its expression
    pub constant : (id : ℕ) → (statement_at xs i).says ≡ Constant id
        → reads numbers (here (walk_at i)) (statement_at xs i).expression ≡ Number (own_at i)

  pub record Fits (start : ℕ) (bytes : List ℕ) : Type 0 where
    -- one number for each label and constant
    pub many : length N ≡ count xs
    pub records : (i : ℕ) → i < length xs → Right i
    pub range : Spans (length xs) write_at o.initial start (start + length bytes)
    pub written : (k : ℕ) → k < length bytes → ByteAt (length xs) write_at (start + k) (get_or bytes k 0)

pub record Demand (tape : List ℕ) (initial : ℕ) (N : List ℤ) (start : ℕ) (bytes : List ℕ) : Type 0 where
  -- no argument is refused
  pub tape_short : length tape ≤ max_tape
  pub initial_low : initial ≤ size
  pub start_low : start ≤ size
  pub bytes_short : length bytes ≤ size
  -- nor the form, nor a name: this is the table of the names
  pub table : SymbolTable
  pub names : names_of tape ≡ Fine table
  pub fits : Fits (reads_on tape table) (statements tape) (origin initial) N start bytes
