-- The list of a tape, gathered record by record. Assumes nothing.
use mathlib.Core.Bool.{Bool, true, false, true≢false}
use Rattle.std.specs.Prelude.{Option, None}
use Rattle.std.proofs.Math.ListN.{get_or-map}
use mathlib.Core.List.{List, [], ◌∷◌, ◌++◌, map, append_assoc, append-nil}
use mathlib.Core.Path.{◌≡◌, refl, sym, ap, ◌∙◌}
use Prim.Native.Nat.{ℕ, ◌+◌, ◌≤◌, ◌<◌}
use native.Mathlib.Omega.{arith}
use lib.IntN.{ℤ, pos}
use lib.ListN.{length, get_or, set, drop, length-append}
use lib.Seq.{drop-drop, get_or-drop}
use Rattle.refusals.specs.Answer.{pick}
use Rattle.symbols.specs.Symbols.{number_or0}
use Rattle.tape.specs.Record.{bytes_at}
use Rattle.form.specs.Form.{declares, is_numbered}
use Rattle.form.specs.Statements.{Statement, is_last, statements_at}
use Rattle.form.proofs.Said.{numbered_declares}
use Rattle.form.proofs.Statements.{not_empty}
use Rattle.number_list.specs.Lists.{number_list}
use Rattle.number_list.specs.Calls.{onto, gathered}
use Rattle.number_list.specs.Steps.{put_in}
use Rattle.number_list.proofs.Onto.{onto_none, onto_more}
use Rattle.number_list.proofs.Records.{listed_by, listed_said, names_said, first_left, by_record}

-- the numbers of the names, in the order of the nodes
abbrev pub by_node : List (Option ℤ) → List ℤ
by_node numbers = drop 1 (map number_or0 numbers)

-- what is done, then the list from here, is the whole list
pub record Gathering (tape : List ℕ) (numbers : List (Option ℤ)) (before list : List ℤ) (names count at : ℕ) : Type 0 where
  pub done : List ℤ
  pub whole : gathered tape numbers ≡ done ++ number_list (statements_at tape at) (drop names (by_node numbers))
  pub many : count ≡ length done
  pub is : list ≡ onto before done
  pub few : count ≤ names
  pub low : names ≤ at

module _ (tape : List ℕ) (numbers : List (Option ℤ)) (before : List ℤ) where
  pub gathering_start : Gathering tape numbers before before 0 0 0
  unfolding gathered
  gathering_start = record { done = []; whole = refl; many = refl; is = onto_none before; few = omega arith; low = omega arith }

  module _ {list : List ℤ} {names count at : ℕ} (g : Gathering tape numbers before list names count at) where
    -- nothing more is to come
    pub gathering_done : statements_at tape at ≡ [] → (count ≡ length (gathered tape numbers)) × (list ≡ onto before (gathered tape numbers))
    gathering_done e =
        let all : gathered tape numbers ≡ g.done =
        g.whole ∙ ap (λ (xs : List Statement). g.done ++ number_list xs (drop names (by_node numbers))) e ∙ append-nil g.done in
        (g.many ∙ ap length (sym all), g.is ∙ ap (onto before) (sym all))

    -- a record more
    module _ {r : List ℕ} (is : r ≡ bytes_at tape at) (more : is_last r ≡ false) (k : ℕ) (kind : k ≡ get_or r 0 0) where
      abbrev next : ℕ
      next = at + length r

      -- the numbers of the names from here on
      abbrev ahead : List ℤ
      ahead = drop names (by_node numbers)

      abbrev Adds : Bool → Bool → List Statement → Type 0
      Adds t d xs = number_list xs ahead ≡ listed_by t ahead ++ number_list (statements_at tape next) (drop (pick d 1 0) ahead)

      adds : Adds (is_numbered k) (declares k) (statements_at tape at)
      adds = by_record tape at is more k kind Adds refl (rw (listed_said r k kind ahead, names_said r k kind) refl)

      pub gathering_on : {v : ℤ} {list' : List ℤ} {count' names' : ℕ} → v ≡ number_or0 (get_or numbers (names + 1) None) → list' ≡ put_in list count k v
          → count' ≡ pick (is_numbered k) (count + 1) count → names' ≡ pick (declares k) (names + 1) names
          → Gathering tape numbers before list' names' count' next
      unfolding put_in
      gathering_on {v} v_is list-is count-is names-is =
          rw (list-is, count-is, names-is) (go (is_numbered k) (declares k) (numbered_declares k) adds)
        where
          some_byte : 0 < length r
          some_byte = not_empty r more

          first : get_or ahead 0 (pos 0) ≡ v
          first =
              first_left names (by_node numbers)
              ∙ get_or-drop 1 (map number_or0 numbers) names (pos 0)
              ∙ ap (λ (i : ℕ). get_or (map number_or0 numbers) i (pos 0)) (omega arith)
              ∙ get_or-map number_or0 numbers (names + 1) None
              ∙ sym v_is

          go : (t d : Bool) → (d ≡ false → t ≡ false) → Adds t d (statements_at tape at)
              → Gathering tape numbers before (pick t (set list count v) list) (pick d (names + 1) names) (pick t (count + 1) count) next
          go true true h a = record {
            done = g.done ++ v ∷ [];
            whole =
                g.whole
                ∙ ap (λ (x : List ℤ). g.done ++ x) (a ∙ (λ i. first i ∷ number_list (statements_at tape next) (drop-drop 1 names (by_node numbers) i)))
                ∙ sym (append_assoc g.done (v ∷ []) (number_list (statements_at tape next) (drop (names + 1) (by_node numbers))));
            many = omega (arith, g.many, length-append g.done (v ∷ []));
            is = (λ i. set (g.is i) (g.many i) v) ∙ onto_more before g.done v;
            few = omega (arith, g.few);
            low = omega (arith, g.low, some_byte);
          }
          go true false h a = absurd (true≢false (h refl))
          go false true h a = record {
            done = g.done;
            whole = g.whole ∙ ap (λ (x : List ℤ). g.done ++ x) (a ∙ ap (number_list (statements_at tape next)) (drop-drop 1 names (by_node numbers)));
            many = g.many;
            is = g.is;
            few = omega (arith, g.few);
            low = omega (arith, g.low, some_byte);
          }
          go false false h a = record {
            done = g.done;
            whole = g.whole ∙ ap (λ (x : List ℤ). g.done ++ x) a;
            many = g.many;
            is = g.is;
            few = omega (arith, g.few);
            low = omega (arith, g.low);
          }
