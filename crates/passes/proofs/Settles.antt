-- The settled numbers are those of the least pass that gives back what it read. Assumes nothing.
use Rattle.std.specs.Prelude.{Option, None, Some}
use mathlib.Core.Bool.{true, false}
use mathlib.Core.List.{List, [], ◌∷◌}
use mathlib.Core.Path.{◌≡◌, refl, sym, ap, ◌∙◌}
use Prim.Native.Nat.{ℕ, zero, suc, ◌-◌, ◌≤◌}
use native.Mathlib.Decide.{dec_lt}
use native.Mathlib.Omega.{arith}
use lib.IntN.{ℤ}
use lib.ListN.{length, length-append, length-replicate}
use Rattle.refusals.specs.AnswerAt.{AnswerAt, Fine, Fault}
use Rattle.refusals.specs.Table.{not_settled}
use Rattle.refusals.proofs.Never as clash
use Rattle.form.specs.Statements.{Statement}
use Rattle.evaluator.specs.Expression.{Value}
use Rattle.walk.specs.declared.Walk.{Walk}
use Rattle.walk.specs.Walk.{Origin, begin}
use Rattle.walk.specs.Values.{Values, numbered, read_at, step_at, declarations, eq_value, same}
use Rattle.walk.proofs.Equal.{eq_value_true, eq_value_same, same_true, same_same}
use Rattle.passes.specs.Passes.{gives, pass, least_from, limit, passes, repeats, settled_by, settled}
use Rattle.passes.specs.Least.{Least}
use Rattle.passes.proofs.First.{Found, least_found}
use Rattle.passes.proofs.Passing.{gives_length}

-- ---- every pass has a value for every name

pub pass_length : (reads : (ℕ → Option ℤ) → ℤ → ℕ → Value) (numbers : ℕ → Option ℤ) (w : Walk) (xs : List Statement)
    → length (pass reads numbers w xs) ≡ declarations xs
unfolding pass
pass_length reads numbers w [] = refl
pass_length reads numbers w (x ∷ xs) =
    let v = read_at reads numbers w x in
    let u = step_at reads numbers w x in
    length-append (gives w x.says v) (pass reads numbers u xs)
    ∙ omega (arith, gives_length w x.says v, pass_length reads numbers u xs)

module _ (reads : (ℕ → Option ℤ) → ℤ → ℕ → Value) (xs : List Statement) (o : Origin) where
  abbrev L : ℕ → Values
  L n = passes reads xs o n

  pub passes_length : (n : ℕ) → length (L n) ≡ declarations xs
  unfolding passes
  passes_length zero = length-replicate (declarations xs) None
  passes_length (suc n) = pass_length reads (numbered (L n)) (begin o) xs

  -- ---- the test of two passes

  pub repeats_true : (n : ℕ) → repeats reads xs o n ≡ true → L n ≡ L (n - 1)
  unfolding repeats
  repeats_true n e = same_true eq_value eq_value_true (L n) (L (n - 1)) e

  pub repeats_same : (n : ℕ) → L n ≡ L (n - 1) → repeats reads xs o n ≡ true
  unfolding repeats
  repeats_same n e = ap (λ (l : Values). same eq_value l (L (n - 1))) e ∙ same_same eq_value eq_value_same (L (n - 1))

  repeats_false : (n : ℕ) → repeats reads xs o n ≡ false → ¬ (L n ≡ L (n - 1))
  repeats_false n e p = let q = repeats_same n p in clash.never (cc)

  -- ---- what is settled

  abbrev value_or : ℕ × Values → AnswerAt (ℕ × Values) → ℕ × Values
  value_or d (Fine a) = a
  value_or d (Fault n at) = d

  -- the least pass that gives back what it read, and its numbers
  pub least : {n : ℕ} {K : Values} → settled reads xs o ≡ Fine (n, K) → Least reads xs o n × (K ≡ L n)
  unfolding settled
  least {n} {K} e = go (least_from (repeats reads xs o) limit 1) (least_found (repeats reads xs o) limit 1) e
    where
      go : (r : Option ℕ) → Found (repeats reads xs o) limit 1 r → settled_by reads xs o r ≡ Fine (n, K) → Least reads xs o n × (K ≡ L n)
      go (Some m) f e =
          let is = ap (λ (a : AnswerAt (ℕ × Values)). value_or (0, []) a) e in
          let number : m ≡ n = ap (λ (p : ℕ × Values). p.0) is in (
            rw (← number) (record {
              some = f.0;
              within = omega (arith, f.1);
              repeats = repeats_true m f.2;
              least = λ k a b. repeats_false k (f.3 k a b);
            }),
            sym (ap (λ (p : ℕ × Values). p.1) is) ∙ ap L number,
          )
      go None f e = clash.never (cc)

  -- none of them is
  pub never : {k at : ℕ} → settled reads xs o ≡ Fault k at
      → (k ≡ not_settled) × (at ≡ 0) × ((n : ℕ) → 1 ≤ n → n ≤ limit → ¬ (L n ≡ L (n - 1)))
  unfolding settled
  never {k} {at} e = go (least_from (repeats reads xs o) limit 1) (least_found (repeats reads xs o) limit 1) e
    where
      go : (r : Option ℕ) → Found (repeats reads xs o) limit 1 r → settled_by reads xs o r ≡ Fault k at
          → (k ≡ not_settled) × (at ≡ 0) × ((n : ℕ) → 1 ≤ n → n ≤ limit → ¬ (L n ≡ L (n - 1)))
      go (Some m) f e = clash.never (cc)
      go None f e = (cc, cc, λ n a b. repeats_false n (f n a (omega arith)))

  -- the other way: what is the least is reported
  pub reported : {n : ℕ} → Least reads xs o n → settled reads xs o ≡ Fine (n, L n)
  reported {n} h = go (settled reads xs o) refl
    where
      go : (r : AnswerAt (ℕ × Values)) → settled reads xs o ≡ r → r ≡ Fine (n, L n)
      go (Fine (m, K)) e =
          let (g, is) = least e in
          let x : n ≤ m = elim (dec_lt m n) [ yes b ↦ absurd (h.least m g.some b g.repeats) | no b ↦ omega arith ] in
          let y : m ≤ n = elim (dec_lt n m) [ yes b ↦ absurd (g.least n h.some b h.repeats) | no b ↦ omega arith ] in
          let z : m ≡ n = omega arith in
          rw (is, z)
      go (Fault k at) e = absurd ((never e).2 n h.some h.within h.repeats)

  -- and the next pass gives the settled numbers back
  pub gives_back : {n : ℕ} {K : Values} → settled reads xs o ≡ Fine (n, K) → pass reads (numbered K) (begin o) xs ≡ K
  unfolding passes
  gives_back {n} {K} e =
      let (g, is) = least e in
      let next : suc (n - 1) ≡ n = omega (arith, g.some) in
      ap (λ (l : Values). pass reads (numbered l) (begin o) xs) (is ∙ g.repeats) ∙ ap L next ∙ sym is
