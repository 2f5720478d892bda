-- Pass after pass: what was not found yet, and what it comes to where two passes agree. Assumes nothing.
use Rattle.std.specs.Prelude.{Option, Some}
use mathlib.Core.Bool.{Bool, true, false}
use mathlib.Core.List.{List, []}
use mathlib.Core.Path.{◌≡◌, refl, sym, ap, ◌∙◌}
use Prim.Native.Nat.{ℕ, suc, ◌+◌, ◌-◌, ◌≤◌, ◌<◌}
use native.Mathlib.Numerals.{add-one}
use native.Mathlib.Omega.{arith}
use lib.IntN.{ℤ}
use lib.ListN.{length}
use Rattle.std.specs.Bool.{Decides}
use Rattle.refusals.specs.Answer.{pick}
use Rattle.refusals.specs.AnswerAt.{AnswerAt, Fine, Fault, mapped}
use Rattle.refusals.specs.Table.{not_settled}
use Rattle.refusals.proofs.Never.{never}
use Rattle.edges.specs.Edges.{max_nodes}
use Rattle.form.specs.Statements.{Statement}
use Rattle.evaluator.specs.Expression.{Value}
use Rattle.walk.specs.Walk.{Origin, begin}
use Rattle.walk.specs.Values.{Values, declarations}
use Rattle.walk.specs.Numbers.{numbers_in, numbers_by}
use Rattle.walk.proofs.Columns.{no_names, by_node_lem, apart}
use Rattle.passes.specs.Passes.{pass, least_from, limit, passes, repeats, settled}
use Rattle.passes.specs.Settle.{handed}
use Rattle.passes.proofs.Settles.{passes_length, repeats_true, repeats_same}

-- before pass n, the first of which no repetition is known
pub record Tried (reads : (ℕ → Option ℤ) → ℤ → ℕ → Value) (xs : List Statement) (o : Origin) (numbers : List (Option ℤ)) (n : ℕ)
    : Type 0 where
  pub few : declarations xs < max_nodes
  pub before : numbers ≡ numbers_by (passes reads xs o (n - 1))
  pub not_yet : least_from (repeats reads xs o) limit 1 ≡ least_from (repeats reads xs o) (limit + 1 - n) n

module _ (reads : (ℕ → Option ℤ) → ℤ → ℕ → Value) (xs : List Statement) (o : Origin) where
  abbrev L : ℕ → Values
  L n = passes reads xs o n

  -- what is handed over of the settled numbers
  abbrev result : AnswerAt (ℕ × List (Option ℤ))
  result = mapped handed (settled reads xs o)

  pub tried_start : declarations xs < max_nodes → {m : List (Option ℤ)} → m ≡ numbers_by [] → Tried reads xs o m 1
  unfolding passes
  tried_start h e = record { few = h; before = e ∙ no_names (declarations xs) h; not_yet = refl }

  module _ {m : List (Option ℤ)} {n : ℕ} (t : Tried reads xs o m n) where
    few_values : (k : ℕ) → length (L k) < max_nodes
    few_values k = omega (arith, t.few, passes_length reads xs o k)

    -- what a pass gives then
    pub tried_pass : 1 ≤ n → {k : List (Option ℤ)} → k ≡ numbers_by (pass reads (numbers_in m) (begin o) xs) → k ≡ numbers_by (L n)
    unfolding passes
    tried_pass h e =
        let next : suc (n - 1) ≡ n = omega arith in
        e
        ∙ ap (λ (x : List (Option ℤ)). numbers_by (pass reads (numbers_in x) (begin o) xs)) t.before
        ∙ ap (λ (ns : ℕ → Option ℤ). numbers_by (pass reads ns (begin o) xs)) (by_node_lem (L (n - 1)) (few_values (n - 1)))
        ∙ ap (λ (i : ℕ). numbers_by (L i)) next

    -- r tells whether that is what it read
    module _ (inside : n ≤ limit) {k : List (Option ℤ)} (k-is : k ≡ numbers_by (L n)) (r : Bool) (told : Decides r (k ≡ m)) where
      one_less : least_from (repeats reads xs o) limit 1
          ≡ pick (repeats reads xs o n) (Some n) (least_from (repeats reads xs o) (limit - n) (suc n))
      one_less =
          let less : limit + 1 - n ≡ suc (limit - n) = omega arith in
          t.not_yet ∙ ap (λ (i : ℕ). least_from (repeats reads xs o) i n) less

      agrees : r ≡ true → repeats reads xs o n ≡ true
      agrees e =
          let same : numbers_by (L n) ≡ numbers_by (L (n - 1)) = sym k-is ∙ told.0 e ∙ t.before in
          let sizes : length (L n) ≡ length (L (n - 1)) = passes_length reads xs o n ∙ sym (passes_length reads xs o (n - 1)) in
          repeats_same reads xs o n (apart (L n) (L (n - 1)) (few_values n) sizes same)

      differs : r ≡ false → repeats reads xs o n ≡ false
      differs e = go (repeats reads xs o n) refl
        where
          go : (b : Bool) → repeats reads xs o n ≡ b → b ≡ false
          go true p = let same = told.1 (k-is ∙ ap numbers_by (repeats_true reads xs o n p) ∙ sym t.before) in never (cc)
          go false p = refl

      -- they agree: n passes
      pub tried_settled : r ≡ true → Fine (n, k) ≡ result
      unfolding settled
      tried_settled e = rw (one_less, agrees e, k-is)

      -- they do not: one pass more
      pub tried_on_lem : r ≡ false → Tried reads xs o k (n + 1)
      tried_on_lem e =
          let last : n + 1 - 1 ≡ n = omega arith in
          let less : limit + 1 - (n + 1) ≡ limit - n = omega arith in
          record { few = t.few; before = rw last k-is; not_yet = one_less ∙ rw (differs e, less, add-one n) }

    -- none of the passes agrees with the one before it
    pub tried_all_lem : limit < n → n ≤ limit + 1 → Fault not_settled 0 ≡ result
    unfolding settled
    tried_all_lem h le = let none_left : limit + 1 - n ≡ 0 = omega arith in rw (t.not_yet, none_left)
