-- What a kind in its place says, and the form's reading at a record: refused by its kind, cut short, whole; and behind the end
-- record. Assumes nothing.
use mathlib.Core.Bool.{Bool, true, false}
use mathlib.Core.List.{List}
use mathlib.Core.Path.{◌≡◌, refl}
use Prim.Native.Nat.{ℕ, suc, ◌+◌, ◌≤◌, ◌<◌}
use native.Mathlib.Omega.{arith}
use lib.Dec.{eqb, ltb, leb}
use lib.ListN.{length, get_or, drop, drop_of_length-le}
use lib.Seq.{drop-cons}
use borrow.Author.Tests.{eqb-true, leb-true, ltb-true, ltb-false}
use Rattle.refusals.specs.Answer.{pick}
use Rattle.refusals.specs.Table.{bad_record, cut_short, too_deep}
use Rattle.tape.specs.Kinds.{size_of, is_expression}
use Rattle.tape.specs.Record.{bytes_at}
use Rattle.tape.specs.Walk.{Out, Between, Within, Ended, Bad, land}
use Rattle.tape.proofs.Records.{no_expression, no_statement}
use Rattle.tape.proofs.Walks.{run_bad, walk_head, walk_short, walk_record}
use Rattle.form.specs.Form.{Pending, top, max_depth, expression_fault, outside_fault, head_fault, head_of, step_of, read_from}

-- ---- a kind in its place

-- the depth that is to come is in range
pub head_shallow : (alone : Bool) (d k : ℕ) → head_fault alone d k ≡ 0 → d ≤ max_depth
unfolding head_fault expression_fault
head_shallow alone d k = go (eqb d 0) (is_expression k) (leb d max_depth) (outside_fault alone k) refl refl
  where
    go : (p q t : Bool) (x : ℕ) → eqb d 0 ≡ p → leb d max_depth ≡ t → pick p x (pick q (pick t 0 too_deep) bad_record) ≡ 0 → d ≤ max_depth
    go true q t x a b e = omega (arith, eqb-true d 0 a)
    go false true true x a b e = leb-true d max_depth b
    go false true false x a b e = absurd (omega arith)
    go false false t x a b e = absurd (omega arith)

-- the table has it
pub head_known : (alone : Bool) (d k : ℕ) → head_fault alone d k ≡ 0 → size_of k ≡ 0 → ⊥
unfolding head_fault expression_fault outside_fault
head_known alone d k e z = go (eqb d 0) alone (rw (← no_expression k _ refl z, ← no_statement k _ refl z) at e)
  where
    go : (p a : Bool) → pick p (pick a cut_short bad_record) bad_record ≡ 0 → ⊥
    go true true e = omega arith
    go true false e = omega arith
    go false a e = omega arith

-- ---- the reading

-- its step, which does not ask for the offset
abbrev step_at : Pending → ℕ → List ℕ → Out Pending
step_at p at r = step_of p r

module _ (alone : Bool) (bytes : List ℕ) (at : ℕ) where
  -- a refusal stays
  pub read_bad : (n : ℕ) (rest : List ℕ) → read_from alone (Bad n at) rest ≡ Bad n at
  unfolding read_from
  read_bad n rest = run_bad Pending (head_of alone) step_at n at rest

  -- behind the end record, at an offset: bytes are left, or none
  pub read_behind : (p : Pending)
      → read_from alone (Ended p at) (drop at bytes) ≡ pick (ltb at (length bytes)) (Bad cut_short at) (Ended p at)
  unfolding read_from
  read_behind p = go (ltb at (length bytes)) refl
    where
      go : (t : Bool) → ltb at (length bytes) ≡ t → read_from alone (Ended p at) (drop at bytes) ≡ pick t (Bad cut_short at) (Ended p at)
      go true e = let lt : at < length bytes = ltb-true _ _ e in rw (drop-cons bytes at 0 lt) (read_bad cut_short (drop (suc at) bytes))
      go false e = let past : length bytes ≤ at = ltb-false _ _ e in rw (drop_of_length-le bytes past)

  -- where a record begins
  module _ (p : Pending) (inside : at < length bytes) where
    pub read_head : (head_of alone p (get_or bytes at 0) ≡ 0 → ⊥)
        → read_from alone (Between p at) (drop at bytes) ≡ Bad (head_of alone p (get_or bytes at 0)) at
    unfolding read_from
    read_head z = walk_head Pending (head_of alone) step_at bytes at p inside z

    module _ (good : head_of alone p (get_or bytes at 0) ≡ 0) where
      kind : size_of (get_or bytes at 0) ≡ 0 → ⊥
      kind = head_known alone (top p.depths) (get_or bytes at 0) good

      pub read_short : length (bytes_at bytes at) ≡ 0 → read_from alone (Between p at) (drop at bytes) ≡ Within p at (drop at bytes)
      unfolding read_from
      read_short z = walk_short Pending (head_of alone) step_at bytes at p inside good kind z

      pub read_record : (length (bytes_at bytes at) ≡ 0 → ⊥)
          → read_from alone (Between p at) (drop at bytes)
          ≡ read_from alone (land (step_of p (bytes_at bytes at)) at (bytes_at bytes at)) (drop (at + length (bytes_at bytes at)) bytes)
      unfolding read_from
      read_record z = walk_record Pending (head_of alone) step_at bytes at p inside good kind z
