-- What the calls come to where a tape's names have room: as many values as names, no number left out. Assumes nothing.
use Rattle.std.specs.Prelude.{Option, None}
use mathlib.Core.List.{List, [], ◌∷◌, ◌++◌, map, map-append}
use mathlib.Core.Path.{◌≡◌, refl, ap, ◌∙◌}
use Prim.Native.Nat.{ℕ, zero, suc, ◌-◌, ◌≤◌, ◌<◌}
use native.Mathlib.Omega.{arith}
use lib.IntN.{ℤ, pos}
use lib.ListN.{length, get_or, take, drop, replicate, length-append}
use lib.Seq.{take_all}
use Rattle.edges.specs.Edges.{max_nodes}
use Rattle.symbols.specs.Symbols.{number_or0}
use Rattle.form.specs.Statements.{What, Instruction, Open, Close, Label, Constant, SetPlace, Byte, Word, Screen, Statement, statements}
use Rattle.walk.specs.Walk.{names_in}
use Rattle.walk.specs.Values.{Values, declarations}
use Rattle.walk.specs.Numbers.{filled, numbers_by}
use Rattle.number_list.specs.declared.ByNode.{ByNode}
use Rattle.number_list.specs.Lists.{counts, count, valued, values_of, listed, number_list}
use Rattle.number_list.specs.Calls.{onto, gathered, spread_of}
use Rattle.number_list.proofs.Onto.{onto_filled}

-- ---- spread: each name has one value

pub valued_length : (x : What) (l : List ℤ) → length (valued x l) ≡ names_in x
valued_length (Label id) l = refl
valued_length (Constant id) l = refl
valued_length (Open id) l = refl
valued_length Close l = refl
valued_length (Instruction mnemonic mode suffix) l = refl
valued_length SetPlace l = refl
valued_length Byte l = refl
valued_length Word l = refl
valued_length (Screen petscii) l = refl

pub values_length : (xs : List Statement) (l : List ℤ) → length (values_of xs l) ≡ declarations xs
values_length [] l = refl
values_length (x ∷ xs) l =
    let rest = drop (counts x.says) l in
    omega (arith, length-append (valued x.says l) (values_of xs rest), valued_length x.says l, values_length xs rest)

spread_values : (tape : List ℕ) (list : List ℤ) → declarations (statements tape) < max_nodes
    → (spread_of tape list).numbers ≡ numbers_by (values_of (statements tape) list)
unfolding spread_of
spread_values tape list few =
    ap numbers_by (take_all (max_nodes - 1) (values_of (statements tape) list) (omega (arith, values_length (statements tape) list)))

pub spread_told : (tape : List ℕ) (list : List ℤ) {b : ByNode} → b ≡ spread_of tape list → declarations (statements tape) < max_nodes
    → (b.count ≡ count (statements tape)) × (b.numbers ≡ numbers_by (values_of (statements tape) list))
unfolding spread_of
spread_told tape list is few = (ap (λ (x : ByNode). x.count) is, ap (λ (x : ByNode). x.numbers) is ∙ spread_values tape list few)

-- ---- gather: no more numbers than names

listed_most : (x : What) (l : List ℤ) → length (listed x l) ≤ names_in x
listed_most (Label id) l = omega arith
listed_most (Constant id) l = omega arith
listed_most (Open id) l = omega arith
listed_most Close l = omega arith
listed_most (Instruction mnemonic mode suffix) l = omega arith
listed_most SetPlace l = omega arith
listed_most Byte l = omega arith
listed_most Word l = omega arith
listed_most (Screen petscii) l = omega arith

list_most : (xs : List Statement) (l : List ℤ) → length (number_list xs l) ≤ declarations xs
list_most [] l = omega arith
list_most (x ∷ xs) l =
    let rest = drop (names_in x.says) l in
    omega (arith, length-append (listed x.says l) (number_list xs rest), listed_most x.says l, list_most xs rest)

-- "the list's numbers, zero behind them"
gathered_filled : (tape : List ℕ) (numbers : List (Option ℤ)) → declarations (statements tape) < max_nodes
    → onto (replicate max_nodes (pos 0)) (gathered tape numbers) ≡ filled max_nodes (pos 0) (number_list (statements tape) (drop 1 (map number_or0 numbers)))
unfolding gathered
gathered_filled tape numbers few =
    let l = number_list (statements tape) (drop 1 (map number_or0 numbers)) in
    let all : take max_nodes l ≡ l = take_all max_nodes l (omega (arith, list_most (statements tape) (drop 1 (map number_or0 numbers)))) in
    onto_filled (pos 0) max_nodes l ∙ ap (filled max_nodes (pos 0)) all

pub gather_told : (tape : List ℕ) (numbers : List (Option ℤ)) {n : ℕ} {list list' : List ℤ}
    → (n ≡ length (gathered tape numbers)) × (list' ≡ onto list (gathered tape numbers)) → list ≡ replicate max_nodes (pos 0)
    → declarations (statements tape) < max_nodes
    → (n ≡ length (number_list (statements tape) (drop 1 (map number_or0 numbers))))
    × (list' ≡ filled max_nodes (pos 0) (number_list (statements tape) (drop 1 (map number_or0 numbers))))
unfolding gathered
gather_told tape numbers told clear few =
    (told.0, told.1 ∙ ap (λ (l : List ℤ). onto l (gathered tape numbers)) clear ∙ gathered_filled tape numbers few)

-- ---- zeros behind the numbers by node change no list: a number past the end is 0

abbrev zeros : ℕ → List ℤ
zeros k = replicate k (pos 0)

first_of : (l : List ℤ) (k : ℕ) → get_or (l ++ zeros k) 0 (pos 0) ≡ get_or l 0 (pos 0)
first_of [] zero = refl
first_of [] (suc k) = refl
first_of (a ∷ l) k = refl

drop_one : (l : List ℤ) (k : ℕ) → (j : ℕ) × (drop 1 (l ++ zeros k) ≡ drop 1 l ++ zeros j)
drop_one [] zero = (0, refl)
drop_one [] (suc k) = (k, refl)
drop_one (a ∷ l) k = (k, refl)

pub list_zeros : (xs : List Statement) (l : List ℤ) (k : ℕ) → number_list xs (l ++ zeros k) ≡ number_list xs l
list_zeros [] l k = refl
list_zeros (x ∷ xs) l k =
    let d = drop_one l k in
    go x.says (list_zeros xs l k) (ap (number_list xs) d.1 ∙ list_zeros xs (drop 1 l) d.0)
  where
    go : (w : What) → number_list xs (l ++ zeros k) ≡ number_list xs l → number_list xs (drop 1 (l ++ zeros k)) ≡ number_list xs (drop 1 l)
        → listed w (l ++ zeros k) ++ number_list xs (drop (names_in w) (l ++ zeros k)) ≡ listed w l ++ number_list xs (drop (names_in w) l)
    go (Label id) same on = λ i. first_of l k i ∷ on i
    go (Constant id) same on = λ i. first_of l k i ∷ on i
    go (Open id) same on = on
    go Close same on = same
    go (Instruction mnemonic mode suffix) same on = same
    go SetPlace same on = same
    go Byte same on = same
    go Word same on = same
    go (Screen petscii) same on = same

zeros_of : (k : ℕ) → map number_or0 (replicate k None) ≡ zeros k
zeros_of zero = refl
zeros_of (suc k) = ap (λ (l : List ℤ). pos 0 ∷ l) (zeros_of k)

-- the list of the array of these values is that of the values
pub list_numbers : (xs : List Statement) (L : Values) → number_list xs (drop 1 (map number_or0 (numbers_by L))) ≡ number_list xs (map number_or0 L)
unfolding numbers_by
list_numbers xs L =
    let k = max_nodes - suc (length L) in
    ap (number_list xs) (map-append number_or0 L (replicate k None) ∙ ap (λ (l : List ℤ). map number_or0 L ++ l) (zeros_of k))
    ∙ list_zeros xs (map number_or0 L) k
