-- The inverse table: how the code packs it, and one computed test that it inverts all 151 opcodes and answers none elsewhere; and how
-- many bytes have no row. Assumes nothing.
use mathlib.Core.Path.{◌≡◌, refl, ap, ◌∙◌}
use mathlib.Core.Bool.{Bool, true, false, and-eq-true_iff}
use mathlib.Core.List.{List, [], ◌∷◌}
use Prim.Native.Nat.{ℕ, zero, suc, ◌+◌, ◌*◌, ◌/◌, ◌%◌, ◌<◌}
use lib.Dec.{eqb}
use lib.ListN.{get_or}
use borrow.Author.Tests.{eq-eqb, ne_eqb, eqb-true}
use Rattle.refusals.specs.Answer.{pick}
use Rattle.refusals.specs.Each.{Each}
use Rattle.opcodes.specs.declared.Form.{Form}
use Rattle.opcodes.specs.Manual.{Mode, Entry, ◌is◌, pages, written, is_written, keep, operand_bytes, form, forms_in, forms_of}
use Rattle.opcodes.specs.Census.{below, of_length}
use Rattle.opcodes.proofs.Table.{from, at}
use Rattle.inverse.specs.declared.Row.{Row}
use Rattle.inverse.specs.Inverse.{row, rows_of}

-- ---- the table, from the manual

-- mnemonic, mode, suffix and operand bytes in 8, 4, 2 and 2 bits; ffff for none
abbrev packed : List Row → ℕ
packed [] = 0xffff
packed (r ∷ rs) = 256 * r.mnemonic + 16 * r.mode + 4 * r.suffix + r.operand

unfoldable pub entries : List ℕ
entries = from (λ (k : ℕ). packed (rows_of k)) 0 256

-- ---- what the code reads from it

abbrev pub row_in : ℕ → Row
row_in x = row (x / 256 % 256) (x / 16 % 16) (x / 4 % 4) (x % 4)

abbrev pub unpacked : ℕ → List Row
unpacked x = pick (eqb x 0xffff) [] (row_in x ∷ [])

abbrev pub answer : ℕ → List Row
answer opcode = unpacked (get_or entries opcode 0)

-- ---- the test

-- how many numbers below n the table answers
abbrev pub answered : ℕ → ℕ
answered zero = 0
answered (suc n) = pick (eqb (get_or entries n 0) 0xffff) 0 1 + answered n

-- the rows that have the opcode of each entry of a page
abbrev pub found : List Entry → List (List Row)
found [] = []
found ((k is op) ∷ es) = rows_of op ∷ found es

-- the entry's own row, and it alone
abbrev pub itself : ℕ → List Entry → List (List Row)
itself m [] = []
itself m ((k is op) ∷ es) = (row m (written k).mode (written k).suffix (operand_bytes k) ∷ []) ∷ itself m es

-- a mnemonic's page
abbrev pub page_of : ℕ → List Entry
page_of m = get_or pages m []

pub record Inverse : Type 0 where
  pub bytes : List (List Row)
  pub opcodes : List (List (List Row))
  pub answers : ℕ

-- the table is the manual's inverse at each byte; that gives back, at each opcode of each page, its row and it alone; and the table
-- answers at 151 bytes in all
pub inverts : ◌≡◌ {A = Inverse}
    (record { bytes = below answer 256; opcodes = below (λ (m : ℕ). found (page_of m)) 56; answers = answered 256 })
    (record { bytes = below rows_of 256; opcodes = below (λ (m : ℕ). itself m (page_of m)) 56; answers = 151 })
unfolding entries rows_of
inverts = refl

-- "none" for 105 bytes
pub nones : of_length 0 (below rows_of 256) ≡ 105
unfolding rows_of
nones = refl

-- ---- what the test shows

module _ (k : ℕ) (h : k < 256) where
  read : answer k ≡ rows_of k
  read = at answer rows_of 256 (ap (λ (x : Inverse). x.bytes) inverts) k h

  pub is_none : get_or entries k 0 ≡ 0xffff → [] ≡ rows_of k
  is_none e = rw (eq-eqb _ 0xffff e) at read

  pub is_row : (get_or entries k 0 ≡ 0xffff → ⊥) → row_in (get_or entries k 0) ∷ [] ≡ rows_of k
  is_row e = rw (ne_eqb _ 0xffff e) at read

-- a row's forms are found again by their opcodes
module _ (m o s : ℕ) where
  abbrev pub Again : Form → Type 0
  Again f = rows_of f.opcode ≡ row m o s f.operand ∷ []

  -- an entry that is written so is a form of the row
  one_found : (t : Bool) (k : Mode) (op : ℕ) (fs : List Form) → is_written k o s ≡ t
      → rows_of op ≡ row m (written k).mode (written k).suffix (operand_bytes k) ∷ [] → Each Again fs
      → Each Again (keep t (form op (operand_bytes k)) fs)
  one_found true k op fs w e rest =
      let b = (and-eq-true_iff (eqb (written k).mode o) (eqb (written k).suffix s)).0 w in
      let p : (written k).mode ≡ o = eqb-true _ _ b.0 in
      let q : (written k).suffix ≡ s = eqb-true _ _ b.1 in
      (e ∙ (λ i. row m (p i) (q i) (operand_bytes k) ∷ []), rest)
  one_found false k op fs w e rest = rest

  all_found : (es : List Entry) → found es ≡ itself m es → Each Again (forms_in o s es)
  all_found [] e = tt
  all_found ((k is op) ∷ es) e = one_found (is_written k o s) k op (forms_in o s es) refl (cc) (all_found es (cc))

  pub found_again : m < 56 → Each Again (forms_of m o s)
  unfolding forms_of
  found_again h =
      all_found (page_of m)
      (at (λ (m : ℕ). found (page_of m)) (λ (m : ℕ). itself m (page_of m)) 56 (ap (λ (x : Inverse). x.opcodes) inverts) m h)
