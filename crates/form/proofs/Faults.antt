-- What is wrong with a record, by its bytes; what a record changes; and so what a step answers. Assumes nothing.
use mathlib.Core.Bool.{Bool, true, false}
use mathlib.Core.List.{List, ◌++◌}
use mathlib.Core.Path.{◌≡◌, sym, ap, ◌∙◌}
use Prim.Native.Nat.{ℕ, ◌+◌, ◌≤◌}
use native.Mathlib.Omega.{arith}
use lib.Dec.{eqb, lit≤}
use lib.ListN.{get_or, drop, replicate}
use borrow.Author.Tests.{eq-eqb, ne_eqb}
use Rattle.refusals.specs.declared.Refusal.{Refusal}
use Rattle.refusals.specs.declared.Refusal.TheVariants as why
use Rattle.refusals.specs.Says.{number_of}
use Rattle.refusals.proofs.One.{refusal_of, back_number}
use Rattle.refusals.specs.Answer.{pick}
use Rattle.little.specs.Little.{number_at}
use Rattle.tape.specs.Kinds.{is_name, flags, binary, instruction, end}
use Rattle.tape.specs.Walk.{Go, Stop, No}
use Rattle.form.specs.Form.{Pending, pending, top, range_fault, instruction_fault, id_fault, declares, body_fault, fault_of, has_expression, followed, scopes_after, after, step_of}

-- ---- a refusal

-- its number is not 0
pub refuses : (e : Refusal) → number_of e ≡ 0 → ⊥
refuses e z = let first : why.Argument ≡ e = ap refusal_of (sym z) ∙ back_number e in omega (arith, ap number_of first ∙ z)

-- ---- the body

-- a kind that is none of the first three
pub record Other (k : ℕ) : Type 0 where
  pub no_instruction : k ≡ instruction → ⊥
  pub no_flags : k ≡ flags → ⊥
  pub no_binary : k ≡ binary → ⊥

-- k is the kind of the record r
module _ (r : List ℕ) (k : ℕ) (is : k ≡ get_or r 0 0) where
  -- and a the byte behind it
  module _ (a : ℕ) (first : a ≡ get_or r 1 0) where
    pub body_instruction : k ≡ instruction → (b m : ℕ) → b ≡ get_or r 2 0 → m ≡ get_or r 3 0 → instruction_fault a b m ≡ body_fault r
    unfolding body_fault
    body_instruction e b m second third = rw (first, second, third, ← is, eq-eqb k instruction e)

    pub body_binary : (k ≡ instruction → ⊥) → (k ≡ flags → ⊥) → k ≡ binary → range_fault 0 15 a ≡ body_fault r
    unfolding body_fault
    body_binary i f e = rw (first, ← is, ne_eqb k instruction i, ne_eqb k flags f, eq-eqb k binary e)

  module _ (o : Other k) where
    body_other : pick (is_name k) (range_fault 0 2 (get_or r 1 0)) (pick (declares k) (id_fault (number_at 2 r 1)) 0) ≡ body_fault r
    unfolding body_fault
    body_other = rw (← is, ne_eqb k instruction o.no_instruction, ne_eqb k flags o.no_flags, ne_eqb k binary o.no_binary)

    pub body_id : is_name k ≡ false → declares k ≡ true → (id : ℕ) → id ≡ number_at 2 r 1 → id_fault id ≡ body_fault r
    body_id n e id at = ap id_fault at ∙ rw (n, e) at body_other

-- ---- what a record changes

pub followed_few : (k mode : ℕ) {n : ℕ} → n ≡ followed k mode → n ≤ 2
unfolding followed
followed_few k mode e = rw e (go (eqb k binary) (eqb k flags) (eqb k instruction) (eqb mode 0) (has_expression k))
  where
    go : (p q r s t : Bool) → pick p 2 (pick q 1 (pick r (pick s 0 1) (pick t 1 0))) ≤ 2
    go true q r s t = lit≤ tt
    go false true r s t = lit≤ tt
    go false false true true t = lit≤ tt
    go false false true false t = lit≤ tt
    go false false false s true = lit≤ tt
    go false false false s false = lit≤ tt

-- what is pending behind a record, by way of the code's changes: q is p without the next depth, m are the scopes
pub after_is : (p q t : Pending) (r : List ℕ) (d n k mode m : ℕ) → d ≡ top p.depths → k ≡ get_or r 0 0 → mode ≡ get_or r 2 0
    → n ≡ followed k mode → q ≡ pending p.scopes (drop 1 p.depths) → m ≡ scopes_after p.scopes k
    → t ≡ pending m (replicate n (d + 1) ++ q.depths) → t ≡ after p r
unfolding after
after_is p q t r d n k mode m due kind second follow popped scopes pushed = pushed ∙ rw (popped, scopes, due, follow, kind, second)

-- ---- a step

module _ (p : Pending) (r : List ℕ) (f : ℕ) (is : f ≡ fault_of p.scopes r) where
  pub step_no : (f ≡ 0 → ⊥) → No f ≡ step_of p r
  unfolding step_of
  step_no z = rw (← is, ne_eqb f 0 z)

  module _ (z : f ≡ 0) (k : ℕ) (kind : k ≡ get_or r 0 0) where
    pub step_stop : k ≡ end → Stop p ≡ step_of p r
    unfolding step_of
    step_stop e = rw (← is, eq-eqb f 0 z, ← kind, eq-eqb k end e)

    pub step_go : (k ≡ end → ⊥) → (q : Pending) → q ≡ after p r → Go q ≡ step_of p r
    unfolding step_of
    step_go e q behind = rw (← is, eq-eqb f 0 z, ← kind, ne_eqb k end e, behind)
