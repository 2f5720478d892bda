-- A try whose number is compared with the list's passes where the plain try does and the number is right; and which number of the list
-- a statement has. Assumes nothing.
use Rattle.std.specs.Prelude.{Option, None, Some}
use mathlib.Core.Bool.{Bool, true, false}
use mathlib.Core.List.{List, [], ◌∷◌, ◌++◌}
use mathlib.Core.Logic.{◌↔◌}
use mathlib.Core.Path.{◌≡◌, refl, sym, ap, ◌∙◌}
use Prim.Native.Nat.{ℕ, zero, suc, ◌+◌}
use lib.IntN.{ℤ, pos}
use lib.ListN.{get_or, take, drop}
use lib.Seq.{get_or-drop, get_or-append-add}
use Rattle.refusals.specs.Answer.{pick}
use Rattle.refusals.specs.AnswerAt.{Fine, Fault}
use Rattle.refusals.specs.Table.{number_differs}
use Rattle.refusals.proofs.Never.{never}
use Rattle.form.specs.Statements.{What, Instruction, Open, Close, Label, Constant, SetPlace, Byte, Word, Screen, Statement}
use Rattle.evaluator.specs.Expression.{Value, Number, Unresolved, Refuses}
use Rattle.walk.specs.Values.{eq_value, declarations}
use Rattle.walk.proofs.Equal.{eq_value_true, eq_value_same}
use Rattle.compares.specs.Compared.{plain, checker}
use Rattle.tries.specs.Try.{compared, try_of}
use Rattle.number_list.specs.Lists.{counts, count, valued, values_of}
use Rattle.number_list.proofs.Kept.{valued_length}
use Rattle.demand.specs.Demand.{statement_at}

-- ---- one try

-- n, the number that the list has for a statement: a label's is the place, a constant's is its expression
pub record Numbered (n place : ℤ) (x : What) (v : Value) : Type 0 where
  pub label : (id : ℕ) → x ≡ Label id → n ≡ place
  pub constant : (id : ℕ) → x ≡ Constant id → v ≡ Number n

-- one that has no number in the list
not_numbered : {A : Type 0} (n place : ℤ) (x : What) (v : Value) → counts x ≡ 0 → A ↔ (A × Numbered n place x v)
not_numbered n place x v e =
    (λ a. (a, record { label = λ i q. never (sym e ∙ ap counts q); constant = λ i q. never (sym e ∙ ap counts q) }), λ p. p.0)

-- own: what the statement's name has
module _ (own : Option ℤ) (n : ℤ) (at : ℕ) (bs : List ℕ) where
  -- a number that is compared passes where it is the list's
  compared_right : own ≡ Some n → (z : ℤ) → (compared checker.label own z at ≡ Fine bs) ↔ ((Fine [] ≡ Fine bs) × (n ≡ z))
  compared_right is z = (λ e. to (eq_value own (Some z)) refl e, λ p. from p.1 ∙ p.0)
    where
      to : (t : Bool) → eq_value own (Some z) ≡ t → pick t (Fine []) (Fault number_differs at) ≡ Fine bs → (Fine [] ≡ Fine bs) × (n ≡ z)
      to true h e = let same : own ≡ Some z = eq_value_true own (Some z) h in (e, cc)
      to false h e = never (cc)

      from : n ≡ z → compared checker.label own z at ≡ Fine []
      from e = rw (is, e, eq_value_same (Some z))

  -- the checker's try passes where the plain one does and the number is right
  pub try_right : (place : ℤ) (x : What) (v : Value) → (counts x ≡ 1 → own ≡ Some n)
      → (try_of checker own place at x v ≡ Fine bs) ↔ ((try_of plain own place at x v ≡ Fine bs) × Numbered n place x v)
  try_right place (Label id) v is =
      let (to, from) = compared_right (is refl) place in (
        λ e. let p = to e in (p.0, record { label = λ i q. p.1; constant = λ i q. never (cc) }),
        λ p. from (p.0, p.1.label id refl),
      )
  try_right place (Constant id) (Number z) is =
      let (to, from) = compared_right (is refl) z in (
        λ e. let p = to e in (p.0, record { label = λ i q. never (cc); constant = λ i q. ap Number (sym p.1) }),
        λ p. from (p.0, let q = p.1.constant id refl in cc),
      )
  try_right place (Constant id) (Unresolved i) is = (λ e. never (cc), λ p. p.0)
  try_right place (Constant id) (Refuses m i) is = (λ e. never (cc), λ p. p.0)
  try_right place (Open id) v is = not_numbered n place (Open id) v refl
  try_right place Close v is = not_numbered n place Close v refl
  try_right place SetPlace v is = not_numbered n place SetPlace v refl
  try_right place (Instruction m o s) v is = not_numbered n place (Instruction m o s) v refl
  try_right place Byte v is = not_numbered n place Byte v refl
  try_right place Word v is = not_numbered n place Word v refl
  try_right place (Screen petscii) v is = not_numbered n place (Screen petscii) v refl

-- ---- the number of statement i

-- those before it have as many names as they declare, and as many numbers as they count
pub own_value : (xs : List Statement) (N : List ℤ) (i : ℕ) → counts (statement_at xs i).says ≡ 1
    → get_or (values_of xs N) (declarations (take i xs)) None ≡ Some (get_or N (count (take i xs)) (pos 0))
own_value [] N i e = never (cc)
own_value (x ∷ xs) N zero e = go x.says e
  where
    go : (w : What) → counts w ≡ 1 → get_or (valued w N ++ values_of xs (drop (counts w) N)) 0 None ≡ Some (get_or N 0 (pos 0))
    go (Label id) e = refl
    go (Constant id) e = refl
    go (Open id) e = never (cc)
    go Close e = never (cc)
    go (Instruction m o s) e = never (cc)
    go SetPlace e = never (cc)
    go Byte e = never (cc)
    go Word e = never (cc)
    go (Screen petscii) e = never (cc)
own_value (x ∷ xs) N (suc i) e =
    let rest = values_of xs (drop (counts x.says) N) in
    ap (λ (k : ℕ). get_or (valued x.says N ++ rest) (k + declarations (take i xs)) None) (sym (valued_length x.says N))
    ∙ get_or-append-add (valued x.says N) rest (declarations (take i xs)) None
    ∙ own_value xs (drop (counts x.says) N) i e
    ∙ ap Some (get_or-drop (counts x.says) N (count (take i xs)) (pos 0))
