-- One record of the walk: what the code hands to the try, and what it makes of its answer. Assumes nothing.
use Rattle.std.specs.Prelude.{Option}
use mathlib.Core.Bool.{Bool, true, false}
use mathlib.Core.List.{List, [], ◌∷◌}
use mathlib.Core.Path.{◌≡◌, refl, sym, ap, ◌∙◌}
use Prim.Native.Nat.{ℕ, suc, ◌+◌, ◌≤◌}
use native.Mathlib.Omega.{arith}
use lib.IntN.{ℤ}
use lib.ListN.{length, get_or}
use Rattle.refusals.specs.AnswerAt as At
use Rattle.refusals.specs.AnswerAt.{AnswerAt, Fine, Fault, part, and_then}
use Rattle.refusals.proofs.Never.{never}
use Rattle.refusals.proofs.Pick.{at_true, at_false}
use Rattle.opcodes.specs.declared.Code.{Code}
use Rattle.opcodes.specs.Encode.{code}
use Rattle.form.specs.Statements.{what_of, is_inner, statement_of, placed}
use Rattle.evaluator.specs.Expression.{Value}
use Rattle.walk.specs.declared.Walk.{Walk}
use Rattle.walk.specs.Walk.{here, step}
use Rattle.walk.specs.Values.{number_of, value_at, step_at}
use Rattle.walk.specs.Numbers.{reads_noted, value_of}
use Rattle.compares.specs.declared.Compares.{Compares}
use Rattle.tries.specs.Try.{try_of}
use Rattle.tries.specs.Tries.{Page, drawn, Trying, trying, try_at, tried}
use Rattle.tries.specs.Steps.{bytes_in, walk_behind, tried_over}
use Rattle.tries.proofs.Lengths.{try_length, try_short, behind_step}

-- ---- bytes, handed over as a code

pub bytes_code : (bs : List ℕ) → length bs ≤ 3 → bytes_in (code bs) ≡ bs
bytes_code [] h = refl
bytes_code (a ∷ []) h = refl
bytes_code (a ∷ b ∷ []) h = refl
bytes_code (a ∷ b ∷ d ∷ []) h = refl
bytes_code (a ∷ b ∷ d ∷ e ∷ bs) h = absurd (omega arith)

pub fine_code : (y : AnswerAt (List ℕ)) (k : Code) → Fine k ≡ At.mapped code y → (y ≡ Fine (part y)) × (k ≡ code (part y))
fine_code (Fine bs) k e = (refl, cc)
fine_code (Fault n i) k e = never (cc)

pub fault_code : (y : AnswerAt (List ℕ)) (n i : ℕ) → Fault n i ≡ At.mapped code y → y ≡ Fault n i
fault_code (Fine bs) n i e = never (cc)
fault_code (Fault m j) n i e = cc

-- ---- a record r at an offset, where the walk is w

abbrev over : List ℕ → List ℕ → (ℕ → Option ℤ) → Compares → Walk → Page → ℕ → List ℕ → AnswerAt Trying
over tape nodes numbers c w p at r = tried_over (reads_noted tape nodes) c numbers (trying w p) at r

pub over_inner : (tape nodes : List ℕ) (numbers : ℕ → Option ℤ) (c : Compares) (w : Walk) (p : Page) (at : ℕ) (r : List ℕ)
    {t : Bool} → t ≡ is_inner r → t ≡ true → Fine (trying w p) ≡ over tape nodes numbers c w p at r
unfolding tried_over
over_inner tape nodes numbers c w p at r t-is e = at_true _ _ (sym t-is ∙ e)

-- own, place and v: what the code hands to the try of a statement
pub record Handed (tape nodes : List ℕ) (numbers : ℕ → Option ℤ) (w : Walk) (at : ℕ) (r : List ℕ)
    (own : Option ℤ) (place : ℤ) (v : Value) : Type 0 where
  pub outer : is_inner r ≡ false
  pub own_is : own ≡ numbers (suc w.names)
  pub place_is : place ≡ here w
  pub v_is : v ≡ value_of tape nodes numbers place r (at + length r)

pub handed : {tape nodes : List ℕ} {numbers : ℕ → Option ℤ} {w : Walk} {at : ℕ} {r : List ℕ} {own : Option ℤ} {place : ℤ} {v : Value}
    → {t : Bool} → t ≡ is_inner r → t ≡ false → own ≡ numbers (suc w.names) → place ≡ here w
    → v ≡ value_of tape nodes numbers place r (at + length r) → Handed tape nodes numbers w at r own place v
handed is e o p v = record { outer = sym is ∙ e; own_is = o; place_is = p; v_is = v }

module _ {tape nodes : List ℕ} {numbers : ℕ → Option ℤ} {w : Walk} {at : ℕ} {r : List ℕ} {own : Option ℤ} {place : ℤ} {v : Value}
    (handed : Handed tape nodes numbers w at r own place v) (c : Compares) where
  abbrev answer : AnswerAt (List ℕ)
  answer = try_of c own place at (what_of r) v

  value : v ≡ value_at (reads_noted tape nodes) numbers w (statement_of at r)
  unfolding value_of
  value = handed.v_is ∙ ap (λ (z : ℤ). value_of tape nodes numbers z r (at + length r)) handed.place_is

  -- the code k of bytes that passed
  module _ (k : Code) (h : Fine k ≡ At.mapped code answer) where
    passed : answer ≡ Fine (part answer)
    passed = (fine_code answer k h).0

    short : length (part answer) ≤ 3
    short = try_short c own place at (what_of r) v (part answer) passed

    pub over_short : k.len ≤ 3
    over_short = omega (arith, ap (λ (x : Code). x.len) (fine_code answer k h).1, short)

    -- is of the statement's own length
    walked : {kind : ℕ} → kind ≡ get_or r 0 0
        → walk_behind w kind v (length (part answer)) ≡ step_at (reads_noted tape nodes) numbers w (statement_of at r)
    walked {kind} is =
        behind_step w r kind is v (length (part answer)) (try_length c own place at (what_of r) v (part answer) passed)
        ∙ ap (λ (u : Value). step w (what_of r) (number_of u)) value

  -- over a page p
  module _ (p : Page) where
    -- what is made of bytes
    abbrev onward : List ℕ → AnswerAt Trying
    onward bs =
        At.mapped (λ q. trying (step_at (reads_noted tape nodes) numbers w (statement_of at r)) q) (placed at (drawn p w.place bs))

    same : and_then answer onward ≡ over tape nodes numbers c w p at r
    unfolding tried_over tried try_at
    same =
        (λ i. and_then (try_of c (handed.own_is i) (handed.place_is i) at (what_of r) (value i)) onward)
        ∙ at_false (Fine (trying w p)) (tried (reads_noted tape nodes) c numbers (trying w p) (statement_of at r)) handed.outer

    pub over_refused : (n i : ℕ) → Fault n i ≡ At.mapped code answer → Fault n i ≡ over tape nodes numbers c w p at r
    over_refused n i h = sym (ap (λ (a : AnswerAt (List ℕ)). and_then a onward) (fault_code answer n i h)) ∙ same

    pub over_put : (k : Code) → Fine k ≡ At.mapped code answer → {kind : ℕ} → kind ≡ get_or r 0 0 → {a : AnswerAt Trying}
        → a ≡ At.mapped (λ q. trying (walk_behind w kind v k.len) q) (placed at (drawn p w.place (bytes_in k)))
        → a ≡ over tape nodes numbers c w p at r
    over_put k h {kind} is e =
        e
        ∙ ap (λ (x : Code). At.mapped (λ q. trying (walk_behind w kind v x.len) q) (placed at (drawn p w.place (bytes_in x))))
        (fine_code answer k h).1
        ∙ (λ i. At.mapped (λ q. trying (walked k h is i) q) (placed at (drawn p w.place (bytes_code (part answer) (short k h) i))))
        ∙ ap (λ (a : AnswerAt (List ℕ)). and_then a onward) (sym (passed k h))
        ∙ same
