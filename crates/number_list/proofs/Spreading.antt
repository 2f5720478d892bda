-- A list, spread over the nodes of a tape record by record. Assumes nothing.
use Rattle.std.specs.Prelude.{Option, None, Some}
use mathlib.Core.Bool.{Bool, true, false, true≢false}
use mathlib.Core.List.{List, [], ◌∷◌, ◌++◌, append_assoc, append-nil}
use mathlib.Core.Path.{◌≡◌, refl, sym, ap, ◌∙◌}
use Prim.Native.Nat.{ℕ, suc, ◌+◌, ◌-◌, ◌≤◌, ◌<◌}
use native.Mathlib.Omega.{arith}
use lib.IntN.{ℤ, pos}
use lib.ListN.{length, get_or, set, take, drop, replicate, length-append}
use lib.Seq.{drop-drop}
use Rattle.refusals.specs.Answer.{pick}
use Rattle.edges.specs.Edges.{max_nodes}
use Rattle.tape.specs.Record.{bytes_at}
use Rattle.form.specs.Form.{declares, is_numbered}
use Rattle.form.specs.Statements.{Statement, is_last, statements_at, statements}
use Rattle.form.proofs.Said.{numbered_declares}
use Rattle.form.proofs.Statements.{not_empty}
use Rattle.walk.specs.Values.{Values}
use Rattle.walk.specs.Numbers.{filled, numbers_by}
use Rattle.number_list.specs.declared.ByNode.{ByNode}
use Rattle.number_list.specs.Lists as Lists
use Rattle.number_list.specs.Lists.{values_of}
use Rattle.number_list.specs.Calls.{onto, spread_of}
use Rattle.number_list.specs.Steps.{put_in}
use Rattle.number_list.proofs.Onto.{onto_more, onto_same, onto_filled}
use Rattle.number_list.proofs.Records.{valued_by, valued_said, counts_said, first_left, by_record}

-- ---- the array of some values, behind that of the root

abbrev pub column : Values → List (Option ℤ)
column L = onto (replicate max_nodes None) (None ∷ L)

-- one name more
column_more : (L : Values) (v : Option ℤ) {l : List (Option ℤ)} {i : ℕ} → l ≡ column L → length L ≡ i → set l (i + 1) v ≡ column (L ++ v ∷ [])
column_more L v {l} {i} is many =
    let here : i + 1 ≡ suc (length L) = omega (arith, many) in
    (λ j. set (is j) (here j) v) ∙ onto_more (replicate max_nodes None) (None ∷ L) v

-- a scope has no number
column_none : (L : Values) → column L ≡ column (L ++ None ∷ [])
column_none L = onto_same max_nodes None (None ∷ L)

column_filled : (L : Values) → column L ≡ filled max_nodes None (None ∷ take (max_nodes - 1) L)
column_filled L = onto_filled None max_nodes (None ∷ L)

-- a count and an array
pub all_spread : {b : ByNode} {n : ℕ} {numbers : List (Option ℤ)} → (n ≡ b.count) × (numbers ≡ b.numbers)
    → record { count = n; numbers = numbers } ≡ b
all_spread told i = record { count = told.0 i; numbers = told.1 i }

-- ---- the loop: what is done, then the values from here, are all values

pub record Spreading (tape : List ℕ) (list : List ℤ) (numbers : List (Option ℤ)) (names count at : ℕ) : Type 0 where
  pub done : Values
  pub whole : values_of (statements tape) list ≡ done ++ values_of (statements_at tape at) (drop count list)
  pub many : length done ≡ names
  pub is : numbers ≡ column done
  pub counted : count + Lists.count (statements_at tape at) ≡ Lists.count (statements tape)
  pub few : count ≤ names
  pub low : names ≤ at

module _ (tape : List ℕ) (list : List ℤ) where
  pub spreading_start : {numbers : List (Option ℤ)} → numbers ≡ replicate max_nodes None → Spreading tape list numbers 0 0 0
  spreading_start e = record {
    done = [];
    whole = refl;
    many = refl;
    is = e;
    counted = omega arith;
    few = omega arith;
    low = omega arith;
  }

  module _ {numbers : List (Option ℤ)} {names count at : ℕ} (g : Spreading tape list numbers names count at) where
    -- nothing more is to come
    pub spreading_done : statements_at tape at ≡ []
        → (count ≡ (spread_of tape list).count) × (numbers ≡ (spread_of tape list).numbers)
    unfolding spread_of numbers_by
    spreading_done e =
        let all : g.done ≡ values_of (statements tape) list =
        sym (g.whole ∙ ap (λ (xs : List Statement). g.done ++ values_of xs (drop count list)) e ∙ append-nil g.done) in (
          omega (arith, g.counted, ap Lists.count e),
          g.is ∙ ap column all ∙ column_filled (values_of (statements tape) list),
        )

    -- a record more
    module _ {r : List ℕ} (is : r ≡ bytes_at tape at) (more : is_last r ≡ false) (k : ℕ) (kind : k ≡ get_or r 0 0) where
      abbrev next : ℕ
      next = at + length r

      -- the numbers of the list from here on
      abbrev ahead : List ℤ
      ahead = drop count list

      abbrev Adds : Bool → Bool → List Statement → Type 0
      Adds t d xs =
          (values_of xs ahead ≡ valued_by t d ahead ++ values_of (statements_at tape next) (drop (pick t 1 0) ahead))
          × (Lists.count xs ≡ pick t 1 0 + Lists.count (statements_at tape next))

      adds : Adds (is_numbered k) (declares k) (statements_at tape at)
      adds =
          by_record tape at is more k kind Adds (refl, omega arith)
          (rw (valued_said r k kind ahead, counts_said r k kind) refl, rw (counts_said r k kind) refl)

      pub spreading_on : {numbers' : List (Option ℤ)} {count' n : ℕ}
          → numbers' ≡ put_in numbers (names + 1) k (Some (get_or list count (pos 0))) → count' ≡ pick (is_numbered k) (count + 1) count
          → n ≡ pick (declares k) 1 0 → Spreading tape list numbers' (names + n) count' next
      unfolding put_in
      spreading_on numbers-is count-is names-is =
          rw (numbers-is, count-is, names-is) (go (is_numbered k) (declares k) (numbered_declares k) adds)
        where
          some_byte : 0 < length r
          some_byte = not_empty r more

          z : ℤ
          z = get_or list count (pos 0)

          first : get_or ahead 0 (pos 0) ≡ z
          first = first_left count list

          go : (t d : Bool) → (d ≡ false → t ≡ false) → Adds t d (statements_at tape at)
              → Spreading tape list (pick t (set numbers (names + 1) (Some z)) numbers)
              (names + pick d 1 0) (pick t (count + 1) count) next
          go true true h a = record {
            done = g.done ++ Some z ∷ [];
            whole =
                g.whole
                ∙ ap (λ (x : Values). g.done ++ x) a.0
                ∙ (λ i. g.done ++ Some (first i) ∷ values_of (statements_at tape next) (drop-drop 1 count list i))
                ∙ sym (append_assoc g.done (Some z ∷ []) (values_of (statements_at tape next) (drop (count + 1) list)));
            many = omega (arith, g.many, length-append g.done (Some z ∷ []));
            is = column_more g.done (Some z) g.is g.many;
            counted = omega (arith, g.counted, a.1);
            few = omega (arith, g.few);
            low = omega (arith, g.low, some_byte);
          }
          go true false h a = absurd (true≢false (h refl))
          go false true h a = record {
            done = g.done ++ None ∷ [];
            whole =
                g.whole
                ∙ ap (λ (x : Values). g.done ++ x) a.0
                ∙ sym (append_assoc g.done (None ∷ []) (values_of (statements_at tape next) (drop count list)));
            many = omega (arith, g.many, length-append g.done (None ∷ []));
            is = g.is ∙ column_none g.done;
            counted = omega (arith, g.counted, a.1);
            few = omega (arith, g.few);
            low = omega (arith, g.low, some_byte);
          }
          go false false h a = record {
            done = g.done;
            whole = g.whole ∙ ap (λ (x : Values). g.done ++ x) a.0;
            many = omega (arith, g.many);
            is = g.is;
            counted = omega (arith, g.counted, a.1);
            few = omega (arith, g.few);
            low = omega (arith, g.low);
          }
