-- Numbers that a pass gives back: nothing that a try compares differs, so all ways to compare come to the same tries. Assumes nothing.
use Rattle.std.specs.Prelude.{Option, None, Some}
use mathlib.Core.List.{List, [], ◌∷◌, ◌++◌}
use mathlib.Core.Path.{◌≡◌, refl, sym, ap, ◌∙◌, subst}
use Prim.Native.Nat.{ℕ, suc, ◌+◌}
use native.Mathlib.Omega.{arith}
use lib.IntN.{ℤ}
use lib.ListN.{get_or, drop}
use lib.Seq.{get_or-drop, drop-drop, drop_at}
use Rattle.refusals.specs.AnswerAt.{AnswerAt, Fine, Fault, and_then}
use Rattle.refusals.specs.declared.Refusal.{Refusal}
use Rattle.form.specs.Statements.{What, Instruction, Open, Close, Label, Constant, SetPlace, Byte, Word, Screen, Statement}
use Rattle.evaluator.specs.Expression.{Value, Number, Unresolved, Refuses}
use Rattle.walk.specs.declared.Walk.{Walk}
use Rattle.walk.specs.Walk.{Origin, here, names_in, step}
use Rattle.walk.specs.Values.{Values, numbered, number_of, value_at, read_at, step_at}
use Rattle.walk.proofs.Equal.{eq_value_same}
use Rattle.passes.specs.Passes.{gives, pass, settled}
use Rattle.passes.proofs.Passing.{gives_length}
use Rattle.passes.proofs.Settles.{gives_back}
use Rattle.compares.specs.declared.Compares.{Compares}
use Rattle.tries.specs.Try.{compared, try_of}
use Rattle.tries.specs.Tries.{Trying, start, try_at, tried, tries}
use Rattle.tries.proofs.Passed.{tried_has}

-- ---- one statement whose name has the number that a pass gives it

-- a number that is the one in the list passes
compared_own : (r : Option Refusal) {own : Option ℤ} {z : ℤ} (at : ℕ) → own ≡ Some z → compared r own z at ≡ Fine []
compared_own None at e = refl
compared_own (Some why) {z = z} at e = rw (e, eq_value_same (Some z)) refl

module _ (L : Values) (w : Walk) (vs : Values) where
  -- the numbers from here on begin with this one
  own_first : {v : Option ℤ} → v ∷ vs ≡ drop w.names L → numbered L (suc w.names) ≡ v
  own_first {v} e =
      let same : w.names + 0 ≡ w.names = omega arith in
      ap (λ (k : ℕ). get_or L k None) (sym same)
      ∙ sym (get_or-drop w.names L 0 None)
      ∙ ap (λ (l : Values). get_or l 0 None) (sym e)

  -- behind the statement the rest is left
  left_behind : (x : What) (v : Option ℤ) → gives w x v ++ vs ≡ drop w.names L → vs ≡ drop (step w x v).names L
  unfolding step
  left_behind x v e =
      sym (drop_at (gives w x v) vs (names_in x) (gives_length w x v))
      ∙ ap (drop (names_in x)) e
      ∙ drop-drop (names_in x) w.names L

  -- any two ways to compare come to one try
  try_either : (c d : Compares) (at : ℕ) (x : What) (v : Value) → gives w x (number_of v) ++ vs ≡ drop w.names L
      → try_of c (numbered L (suc w.names)) (here w) at x v ≡ try_of d (numbered L (suc w.names)) (here w) at x v
  try_either c d at (Label id) v e = compared_own c.label at (own_first e) ∙ sym (compared_own d.label at (own_first e))
  try_either c d at (Constant id) (Number z) e =
      compared_own c.constant at (own_first e) ∙ sym (compared_own d.constant at (own_first e))
  try_either c d at (Constant id) (Unresolved i) e = refl
  try_either c d at (Constant id) (Refuses n i) e = refl
  try_either c d at (Open id) v e = refl
  try_either c d at Close v e = refl
  try_either c d at (Instruction mnemonic mode suffix) v e = refl
  try_either c d at SetPlace v e = refl
  try_either c d at Byte v e = refl
  try_either c d at Word v e = refl
  try_either c d at (Screen petscii) v e = refl

-- ---- all of them

module _ (reads : (ℕ → Option ℤ) → ℤ → ℕ → Value) (L : Values) where
  -- a pass from here gives back the numbers from here on
  abbrev pub Back : Walk → List Statement → Type 0
  Back w xs = pass reads (numbered L) w xs ≡ drop w.names L

  back_on : (w : Walk) (x : Statement) (xs : List Statement) → Back w (x ∷ xs) → Back (step_at reads (numbered L) w x) xs
  unfolding pass
  back_on w x xs e =
      left_behind L w (pass reads (numbered L) (step_at reads (numbered L) w x) xs) x.says (read_at reads (numbered L) w x) e

  module _ (c d : Compares) where
    tried_either : (t : Trying) (x : Statement) (xs : List Statement) → Back t.walk (x ∷ xs)
        → tried reads c (numbered L) t x ≡ tried reads d (numbered L) t x
    unfolding tried try_at pass
    tried_either t x xs e =
        let w = t.walk in
        rw (try_either L w (pass reads (numbered L) (step_at reads (numbered L) w x) xs) c d x.at x.says
        (value_at reads (numbered L) w x) e)

    -- what is compared makes no difference
    pub tries_either : (t : Trying) (xs : List Statement) → Back t.walk xs
        → tries reads c (numbered L) t xs ≡ tries reads d (numbered L) t xs
    tries_either t [] e = refl
    tries_either t (x ∷ xs) e =
        ap (λ (a : AnswerAt Trying). and_then a (λ u. tries reads c (numbered L) u xs)) (tried_either t x xs e)
        ∙ go (λ u. tries_either u xs) (tried reads d (numbered L) t x) refl
      where
        go : ((u : Trying) → Back u.walk xs → tries reads c (numbered L) u xs ≡ tries reads d (numbered L) u xs)
            → (a : AnswerAt Trying) → tried reads d (numbered L) t x ≡ a
            → and_then a (λ u. tries reads c (numbered L) u xs) ≡ and_then a (λ u. tries reads d (numbered L) u xs)
        go rest (Fine u) is =
            let there = ap (λ (v : Trying). v.walk) (tried_has reads d (numbered L) t x is).is in
            rest u (subst (λ (w : Walk). Back w xs) there (back_on t.walk x xs e))
        go rest (Fault n at) is = refl

-- settled numbers are given back, so what is compared makes no difference
pub settled_either : (reads : (ℕ → Option ℤ) → ℤ → ℕ → Value) (xs : List Statement) (o : Origin) {n : ℕ} {L : Values}
    → settled reads xs o ≡ Fine (n, L) → (c d : Compares)
    → tries reads c (numbered L) (start o) xs ≡ tries reads d (numbered L) (start o) xs
settled_either reads xs o {L = L} e c d = tries_either reads L c d (start o) xs (gives_back reads xs o e)
