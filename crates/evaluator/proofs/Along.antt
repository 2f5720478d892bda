-- An expression is read record by record: what it comes to depends on no other offset. Assumes nothing.
use Rattle.std.specs.Prelude.{Option, None, Some}
use mathlib.Core.Bool.{Bool, true, false}
use mathlib.Core.List.{List}
use mathlib.Core.Path.{◌≡◌, refl, sym, ap, ◌∙◌, subst}
use Prim.Native.Nat.{ℕ, zero, suc, ◌+◌}
use lib.Dec.{eqb}
use lib.IntN.{ℤ}
use lib.ListN.{length, get_or}
use Rattle.refusals.proofs.Never.{never}
use Rattle.refusals.specs.Answer.{pick}
use Rattle.refusals.specs.Table.{bad_record}
use Rattle.tape.specs.Kinds.{number, current_place, flags, binary, is_name}
use Rattle.tape.specs.Record.{bytes_at}
use Rattle.lookup.specs.Notes.{onward, NameAt}
use Rattle.lookup.proofs.Notes.{onward_onward}
use Rattle.evaluator.specs.Expression.{Value, Refuses, Meaning, named, inner_at, leaf, factor_by, expression_by, expression}

-- ---- the record behind one that expressions follow

abbrev end : Option (ℕ × ℕ) → ℕ
end None = 0
end (Some p) = p.1

module _ (tape : List ℕ) where
  inner_next : (at k : ℕ) {b next : ℕ} → inner_at tape at k ≡ Some (b, next) → next ≡ onward tape 1 at
  unfolding inner_at onward
  inner_next at k {b} {next} e = go (eqb (get_or (bytes_at tape at) 0 0) k) (get_or (bytes_at tape at) 1 0) (at + length (bytes_at tape at)) e
    where
      go : (t : Bool) (a i : ℕ) → ◌≡◌ {A = Option (ℕ × ℕ)} (pick t (Some (a, i)) None) (Some (b, next)) → next ≡ i
      go true a i e = sym (ap end e)
      go false a i e = never (cc)

  -- ---- where an expression ends

  module _ (numbers : ℕ → Option ℤ) (place : ℤ) where
    abbrev Ends : ℕ → ℕ → Type 0
    Ends at i = (k : ℕ) × (i ≡ onward tape k at)

    ends_by : (at : ℕ) {next i : ℕ} → next ≡ onward tape 1 at → Ends next i → Ends at i
    ends_by at e (k, p) = (k + 1, p ∙ ap (onward tape k) e ∙ onward_onward tape k 1 at)

    ends_then : (at : ℕ) {i j : ℕ} → Ends at i → Ends i j → Ends at j
    ends_then at (k, p) (l, q) = (l + k, q ∙ ap (onward tape l) p ∙ onward_onward tape l k at)

    leaf_ends : (at : ℕ) → Ends at (leaf tape numbers place at).0
    unfolding leaf onward
    leaf_ends at =
        let k = get_or (bytes_at tape at) 0 0 in
        go (eqb k number) (eqb k current_place) (is_name k) (at + length (bytes_at tape at)) refl _ _ _
      where
        go : (p q r : Bool) (i : ℕ) → i ≡ onward tape 1 at → (x y z : Value)
            → Ends at (pick {A = Meaning} p (i, x) (pick q (i, y) (pick r (i, z) (at, Refuses bad_record at)))).0
        go true q r i e x y z = (1, e)
        go false true r i e x y z = (1, e)
        go false false true i e x y z = (1, e)
        go false false false i e x y z = (0, refl)

    expression_ends : (d at : ℕ) → Ends at (expression tape numbers place d at).0
    unfolding expression onward
    expression_ends zero at = (0, refl)
    expression_ends (suc d) at = go (inner_at tape at binary) refl (inner_at tape at flags) refl (expression tape numbers place d) (expression_ends d)
      where
        go : (b : Option (ℕ × ℕ)) → inner_at tape at binary ≡ b → (f : Option (ℕ × ℕ)) → inner_at tape at flags ≡ f
            → (e : ℕ → Meaning) → ((i : ℕ) → Ends i (e i).0)
            → Ends at (expression_by tape numbers place b e (factor_by tape numbers place f e at) at).0
        go (Some (op, next)) p f q e ends = ends_by at (inner_next at binary p) (ends_then next (ends next) (ends (e next).0))
        go None p (Some (b, next)) q e ends = ends_by at (inner_next at flags q) (ends next)
        go None p None q e ends = leaf_ends at

  -- ---- two ways to number the names agree, if they do at each of its records

  module _ (f g : ℕ → Option ℤ) (place : ℤ) where
    abbrev Agree : ℕ → Type 0
    Agree at = (k : ℕ) → NameAt tape (onward tape k at) → f (onward tape k at) ≡ g (onward tape k at)

    agree_on : (at : ℕ) {i : ℕ} → Agree at → Ends f place at i → Agree i
    agree_on at a (j, p) k =
        subst (λ (i : ℕ). NameAt tape i → f i ≡ g i) (sym (ap (onward tape k) p ∙ onward_onward tape k j at)) (a (k + j))

    leaf_agrees : (at : ℕ) → Agree at → leaf tape f place at ≡ leaf tape g place at
    unfolding leaf onward NameAt
    leaf_agrees at a =
        let r = bytes_at tape at in
        let k = get_or r 0 0 in
        go (eqb k number) (eqb k current_place) (is_name k) (a 0) (at + length r) (get_or r 1 0) _ _ _
      where
        go : (p q r : Bool) → (r ≡ true → f at ≡ g at) → (i m : ℕ) (x y z : Meaning)
            → pick {A = Meaning} p x (pick q y (pick r (i, named m at (f at)) z)) ≡ pick p x (pick q y (pick r (i, named m at (g at)) z))
        go true q r e i m x y z = refl
        go false true r e i m x y z = refl
        go false false true e i m x y z = rw (e refl)
        go false false false e i m x y z = refl

    pub expression_agrees : (d at : ℕ) → Agree at → expression tape f place d at ≡ expression tape g place d at
    unfolding expression
    expression_agrees zero at a = refl
    expression_agrees (suc d) at a = go (inner_at tape at binary) refl (inner_at tape at flags) refl (expression_agrees d)
      where
        go : (b : Option (ℕ × ℕ)) → inner_at tape at binary ≡ b → (h : Option (ℕ × ℕ)) → inner_at tape at flags ≡ h
            → ((i : ℕ) → Agree i → expression tape f place d i ≡ expression tape g place d i)
            → expression_by tape f place b (expression tape f place d) (factor_by tape f place h (expression tape f place d) at) at
            ≡ expression_by tape g place b (expression tape g place d) (factor_by tape g place h (expression tape g place d) at) at
        go (Some (op, next)) p h q e =
            let here : Agree next = agree_on at a (1, inner_next at binary p) in
            let left = e next here in
            let right = e (expression tape f place d next).0 (agree_on next here (expression_ends f place d next)) in
            rw (right, left)
        go None p (Some (b, next)) q e = rw (e next (agree_on at a (1, inner_next at flags q)))
        go None p None q e = leaf_agrees at a
