-- What a record of a kind says as a statement; and the nodes of the scopes that are open, as the walk finds them in the edges.
-- Assumes nothing.
use Rattle.std.specs.Prelude.{None, Some, is_some}
use mathlib.Core.Bool.{Bool, true, false}
use mathlib.Core.List.{List, [], ◌∷◌}
use mathlib.Core.Path.{◌≡◌, refl, sym, ap, ◌∙◌, subst}
use Prim.Native.Nat.{ℕ, zero, suc, ◌+◌, ◌*◌, ◌≤◌, ◌<◌}
use native.Mathlib.Numerals.{add-one}
use native.Mathlib.Omega.{arith}
use lib.Dec.{eqb}
use lib.ListN.{length, get_or, drop}
use borrow.Author.Tests.{eqb-true, ne_eqb, ltb-true}
use Rattle.refusals.specs.Answer.{pick}
use Rattle.little.specs.Little.{number_at}
use Rattle.edges.specs.Edges.{root}
use Rattle.tape.specs.Kinds.{instruction, open_scope, close_scope, label, constant, set_place, byte, word}
use Rattle.tape.specs.Record.{bytes_at}
use Rattle.tape.proofs.Records.{record_end}
use Rattle.form.specs.Form.{declares}
use Rattle.form.specs.Statements.{What, Instruction, Open, Close, Label, Constant, SetPlace, Byte, Word, Screen, what_of, is_last, is_inner}
use Rattle.form.proofs.Statements.{not_empty}
use Rattle.names.specs.declared.Walk.{Walk}
use Rattle.names.specs.Scopes.{Scopes, scopes, scope_of, scopes_after}
use Rattle.names.specs.Names.{id_of}
use Rattle.names.specs.Steps.{walk, enclosing, walk_after, fault_of, edges_after}

-- ---- a record of kind k as a statement

-- behind it
abbrev pub scopes_by : ℕ → Scopes → Scopes
scopes_by k s =
    pick (eqb k open_scope) (scopes (suc s.names) (suc s.names ∷ s.around))
    (pick (eqb k close_scope) (scopes s.names (drop 1 s.around))
    (pick (declares k) (scopes (suc s.names) s.around) s))

-- x is what it says: by its kind, it declares its id or none, and these are the scopes behind it
pub record Said (r : List ℕ) (k : ℕ) (x : What) : Type 0 where
  pub id : id_of x ≡ pick (declares k) (Some (number_at 2 r 1)) None
  pub behind : (s : Scopes) → scopes_after s x ≡ scopes_by k s

said_at : (r : List ℕ) (k n : ℕ) (x : What) → eqb k n ≡ true → Said r n x → Said r k x
said_at r k n x e = subst (λ (j : ℕ). Said r j x) (sym (eqb-true k n e))

said_other : (r : List ℕ) (k : ℕ) (x : What) → eqb k open_scope ≡ false → eqb k close_scope ≡ false → eqb k label ≡ false
    → eqb k constant ≡ false → id_of x ≡ None → ((s : Scopes) → scopes_after s x ≡ s) → Said r k x
unfolding declares
said_other r k x o c l n id same = record { id = id ∙ rw (o, l, n); behind = λ s. same s ∙ rw (o, c, l, n) }

said_by : (r : List ℕ) (k : ℕ) (i o c l n p b w : Bool) → eqb k instruction ≡ i → eqb k open_scope ≡ o → eqb k close_scope ≡ c
    → eqb k label ≡ l → eqb k constant ≡ n
    → Said r k
    (pick i (Instruction (get_or r 1 0) (get_or r 2 0) (get_or r 3 0))
    (pick o (Open (number_at 2 r 1)) (pick c Close (pick l (Label (number_at 2 r 1)) (pick n (Constant (number_at 2 r 1))
    (pick p SetPlace (pick b Byte (pick w Word (Screen (get_or r 1 0))))))))))
unfolding declares
said_by r k true o c l n p b w i₁ o₁ c₁ l₁ n₁ =
    said_at r k instruction (Instruction (get_or r 1 0) (get_or r 2 0) (get_or r 3 0)) i₁ (record { id = refl; behind = λ s. refl })
said_by r k false true c l n p b w i₁ o₁ c₁ l₁ n₁ =
    said_at r k open_scope (Open (number_at 2 r 1)) o₁ (record { id = refl; behind = λ s. refl })
said_by r k false false true l n p b w i₁ o₁ c₁ l₁ n₁ =
    said_at r k close_scope Close c₁ (record { id = refl; behind = λ s. refl })
said_by r k false false false true n p b w i₁ o₁ c₁ l₁ n₁ =
    said_at r k label (Label (number_at 2 r 1)) l₁ (record { id = refl; behind = λ s. refl })
said_by r k false false false false true p b w i₁ o₁ c₁ l₁ n₁ =
    said_at r k constant (Constant (number_at 2 r 1)) n₁ (record { id = refl; behind = λ s. refl })
said_by r k false false false false false true b w i₁ o₁ c₁ l₁ n₁ = said_other r k SetPlace o₁ c₁ l₁ n₁ refl (λ s. refl)
said_by r k false false false false false false true w i₁ o₁ c₁ l₁ n₁ = said_other r k Byte o₁ c₁ l₁ n₁ refl (λ s. refl)
said_by r k false false false false false false false true i₁ o₁ c₁ l₁ n₁ = said_other r k Word o₁ c₁ l₁ n₁ refl (λ s. refl)
said_by r k false false false false false false false false i₁ o₁ c₁ l₁ n₁ =
    said_other r k (Screen (get_or r 1 0)) o₁ c₁ l₁ n₁ refl (λ s. refl)

pub said : (r : List ℕ) → Said r (get_or r 0 0) (what_of r)
unfolding what_of
said r =
    let k = get_or r 0 0 in
    said_by r k (eqb k instruction) (eqb k open_scope) (eqb k close_scope) (eqb k label) (eqb k constant)
    (eqb k set_place) (eqb k byte) (eqb k word) refl refl refl refl refl

-- it declares by its kind
pub said_some : (r : List ℕ) → is_some (id_of (what_of r)) ≡ declares (get_or r 0 0)
said_some r = ap is_some (said r).id ∙ go (declares (get_or r 0 0))
  where
    go : (t : Bool) → is_some (pick t (Some (number_at 2 r 1)) None) ≡ t
    go true = refl
    go false = refl

-- the names behind a statement
pub names_after : (s : Scopes) (x : What) → (scopes_after s x).names ≡ pick (is_some (id_of x)) (s.names + 1) s.names
names_after s (Instruction a b d) = refl
names_after s (Open id) = sym (add-one s.names)
names_after s Close = refl
names_after s (Label id) = sym (add-one s.names)
names_after s (Constant id) = sym (add-one s.names)
names_after s SetPlace = refl
names_after s Byte = refl
names_after s Word = refl
names_after s (Screen a) = refl

-- ---- the scopes that are open, in the edges of n names

-- each is a node, and the edge of its declaration leaves the next
abbrev pub Nested : List ℕ → ℕ → List ℕ → Type 0
Nested links n [] = Unit {0}
Nested links n (s ∷ ss) = (0 < s) × (s ≤ n) × (enclosing links s ≡ get_or ss 0 root) × Nested links n ss

-- the innermost is among them
pub nested_scope : (links : List ℕ) (n : ℕ) (around : List ℕ) → Nested links n around → get_or around 0 root ≤ n
nested_scope links n [] h = omega arith
nested_scope links n (s ∷ ss) h = h.1

-- behind it
pub nested_around : (links : List ℕ) (n : ℕ) (around : List ℕ) → Nested links n around
    → enclosing links (get_or around 0 root) ≡ get_or (drop 1 around) 0 root
nested_around links n [] h = refl
nested_around links n (s ∷ ss) h = h.2

-- the first words decide; and there may be more names
enclosing_same : (a b : List ℕ) (n s : ℕ) → s ≤ n → ((i : ℕ) → i < 3 * n → get_or a i 0 ≡ get_or b i 0) → enclosing a s ≡ enclosing b s
enclosing_same a b n zero h same = refl
enclosing_same a b n (suc s) h same = same (3 * s) (omega arith)

pub nested_more : (a b : List ℕ) (n m : ℕ) (around : List ℕ) → n ≤ m → ((i : ℕ) → i < 3 * n → get_or b i 0 ≡ get_or a i 0)
    → Nested a n around → Nested b m around
nested_more a b n m [] more same h = tt
nested_more a b n m (s ∷ ss) more same h =
    (h.0, omega (arith, h.1), enclosing_same b a n s h.1 same ∙ h.2, nested_more a b n m ss more same h.3)

-- behind one statement, where the edge of what it declares leaves the innermost scope
pub nested_after : (links : List ℕ) (s : Scopes) (x : What) → Nested links s.names s.around
    → (is_some (id_of x) ≡ true → get_or links (3 * s.names) 0 ≡ scope_of s)
    → Nested links (scopes_after s x).names (scopes_after s x).around
nested_after links s (Open id) h edge =
    (omega arith, omega arith, edge refl, nested_more links links s.names (suc s.names) s.around (omega arith) (λ i l. refl) h)
nested_after links s Close h edge = go s.around h
  where
    go : (around : List ℕ) → Nested links s.names around → Nested links s.names (drop 1 around)
    go [] h = tt
    go (a ∷ rest) h = h.3
nested_after links s (Label id) h edge = nested_more links links s.names (suc s.names) s.around (omega arith) (λ i l. refl) h
nested_after links s (Constant id) h edge = nested_more links links s.names (suc s.names) s.around (omega arith) (λ i l. refl) h
nested_after links s (Instruction a b d) h edge = h
nested_after links s SetPlace h edge = h
nested_after links s Byte h edge = h
nested_after links s Word h edge = h
nested_after links s (Screen a) h edge = h

-- ---- the walk over a record

-- the walk sees the names and the innermost scope
abbrev pub walk_of : Scopes → Walk
walk_of s = walk s.names (scope_of s)

-- at a statement it goes as the scopes do
pub walk_statement : (links : List ℕ) (s : Scopes) (r : List ℕ) → Nested links s.names s.around
    → walk_after links (walk_of s) r ≡ walk_of (scopes_after s (what_of r))
unfolding walk_after
walk_statement links s r h =
    let k = get_or r 0 0 in
    go (eqb k open_scope) (eqb k close_scope) (declares k) ∙ ap walk_of (sym ((said r).behind s))
  where
    go : (o c d : Bool)
        → pick o (walk (s.names + 1) (s.names + 1))
        (pick c (walk s.names (enclosing links (scope_of s))) (pick d (walk (s.names + 1) (scope_of s)) (walk_of s)))
        ≡ walk_of
        (pick o (scopes (suc s.names) (suc s.names ∷ s.around))
        (pick c (scopes s.names (drop 1 s.around)) (pick d (scopes (suc s.names) s.around) s)))
    go true c d = rw (add-one s.names)
    go false true d = ap (walk s.names) (nested_around links s.names s.around h)
    go false false true = rw (add-one s.names)
    go false false false = refl

-- a record of an expression changes nothing, and is never refused
module _ (r : List ℕ) (inner : is_inner r ≡ true) where
  abbrev small : (n : ℕ) → 64 ≤ n → eqb (get_or r 0 0) n ≡ false
  small n h = ne_eqb (get_or r 0 0) n (λ e. omega (arith, ltb-true (get_or r 0 0) 64 inner))

  inner_declares : declares (get_or r 0 0) ≡ false
  unfolding declares
  inner_declares = rw (small open_scope (omega arith), small label (omega arith), small constant (omega arith))

  pub inner_walk : (links : List ℕ) (w : Walk) → walk_after links w r ≡ w
  unfolding walk_after
  inner_walk links w = rw (small open_scope (omega arith), small close_scope (omega arith), inner_declares)

  pub inner_edges : (links : List ℕ) (w : Walk) → edges_after links w r ≡ links
  unfolding edges_after
  inner_edges links w = rw inner_declares

  pub inner_fault : (links : List ℕ) (w : Walk) → fault_of links w r ≡ 0
  unfolding fault_of
  inner_fault links w = rw inner_declares

-- ---- where the next record begins

pub next_within : (tape : List ℕ) (at : ℕ) {r : List ℕ} → r ≡ bytes_at tape at → is_last r ≡ false → at < length tape
    → (0 < length r) × (at + length r ≤ length tape)
next_within tape at {r} is last inside =
    (not_empty r last, omega (arith, ap length is, record_end tape at (length tape) (omega arith) (omega arith)))
