-- What a record says, by its kind: what holds of every kind and what it says holds of a record. Assumes nothing.
use mathlib.Core.Bool.{Bool, true, false, ◌||◌}
use mathlib.Core.List.{List}
use mathlib.Core.Path.{◌≡◌, refl, sym, ap, subst}
use Prim.Native.Nat.{ℕ, ◌+◌, ◌≤◌}
use native.Mathlib.Omega.{arith}
use lib.Dec.{eqb}
use lib.ListN.{get_or}
use borrow.Author.Tests.{ne_eqb, eqb-true, eqb-false}
use Rattle.refusals.specs.Answer.{pick}
use Rattle.refusals.proofs.Never.{never}
use Rattle.little.specs.Little.{number_at}
use Rattle.tape.specs.Kinds.{instruction, open_scope, close_scope, label, constant, set_place, byte, word}
use Rattle.form.specs.Form.{declares, is_numbered}
use Rattle.form.specs.Statements.{What, Instruction, Open, Close, Label, Constant, SetPlace, Byte, Word, Screen, what_of}

module _ (r : List ℕ) where
  -- what a record with the bytes of r and the kind k says
  abbrev pub what_by : ℕ → What
  what_by k =
      pick (eqb k instruction) (Instruction (get_or r 1 0) (get_or r 2 0) (get_or r 3 0))
      (pick (eqb k open_scope) (Open (number_at 2 r 1))
      (pick (eqb k close_scope) Close
      (pick (eqb k label) (Label (number_at 2 r 1))
      (pick (eqb k constant) (Constant (number_at 2 r 1))
      (pick (eqb k set_place) SetPlace
      (pick (eqb k byte) Byte
      (pick (eqb k word) Word
      (Screen (get_or r 1 0)))))))))

  module _ (P : ℕ → What → Type 0) where
    branch : (k n : ℕ) (x y : What) → P n x → ((k ≡ n → ⊥) → P k y) → P k (pick (eqb k n) x y)
    branch k n x y here on = go (eqb k n) refl
      where
        go : (t : Bool) → eqb k n ≡ t → P k (pick t x y)
        go true e = subst (λ (m : ℕ). P m x) (sym (eqb-true k n e)) here
        go false e = on (eqb-false k n e)

    pub by_kind : P instruction (Instruction (get_or r 1 0) (get_or r 2 0) (get_or r 3 0)) → P open_scope (Open (number_at 2 r 1)) → P close_scope Close
        → P label (Label (number_at 2 r 1)) → P constant (Constant (number_at 2 r 1)) → P set_place SetPlace → P byte Byte → P word Word
        → ((k : ℕ) → declares k ≡ false → P k (Screen (get_or r 1 0)))
        → (k : ℕ) → P k (what_by k)
    unfolding declares
    by_kind i o c l n s b w other k =
        branch k instruction _ _ i (λ xi.
        branch k open_scope _ _ o (λ xo.
        branch k close_scope _ _ c (λ xc.
        branch k label _ _ l (λ xl.
        branch k constant _ _ n (λ xn.
        branch k set_place _ _ s (λ xs.
        branch k byte _ _ b (λ xb.
        branch k word _ _ w (λ xw.
        other k (rw (ne_eqb k open_scope xo, ne_eqb k label xl, ne_eqb k constant xn))))))))))

  -- the record's own kind
  pub said : (k : ℕ) → k ≡ get_or r 0 0 → what_of r ≡ what_by k
  unfolding what_of
  said k is = ap what_by (sym is)

-- what has a number is declared
pub numbered_declares : (n : ℕ) → declares n ≡ false → is_numbered n ≡ false
unfolding is_numbered declares
numbered_declares n e = go (eqb n open_scope) (eqb n label) (eqb n constant) e
  where
    go : (a b c : Bool) → (a || b || c) ≡ false → (b || c) ≡ false
    go true b c e = never (cc)
    go false b c e = e

-- how many names a record adds, by whether it declares one
module _ (t : Bool) {m : ℕ} (is : m ≡ pick t 1 0) where
  pub names_one : m ≤ 1
  names_one = go t is
    where
      go : (t : Bool) → m ≡ pick t 1 0 → m ≤ 1
      go true e = omega arith
      go false e = omega arith

  pub names_more : (n : ℕ) → n + m ≡ pick t (n + 1) n
  names_more n = go t is
    where
      go : (t : Bool) → m ≡ pick t 1 0 → n + m ≡ pick t (n + 1) n
      go true e = omega arith
      go false e = omega arith
