-- One record of the walk: a statement that passed its try writes the same bytes where nothing is compared, and behind them the code
-- is where the tries are. Assumes nothing.
use Rattle.std.specs.Prelude.{Option, None, Some}
use mathlib.Core.Bool.{Bool, true, false}
use mathlib.Core.List.{List, [], ◌∷◌, ◌++◌}
use mathlib.Core.Path.{◌≡◌, refl, sym, ap, ◌∙◌, subst}
use Prim.Native.Nat.{ℕ, suc, ◌+◌, ◌≤◌}
use native.Mathlib.Omega.{arith}
use lib.IntN.{ℤ, pos}
use lib.ListN.{length, get_or}
use borrow.Author.Tests.{ltb-true}
use Rattle.refusals.specs.Answer.{pick}
use Rattle.refusals.specs.AnswerAt as At
use Rattle.refusals.specs.AnswerAt.{AnswerAt, Fine, Fault, part}
use Rattle.refusals.specs.declared.Refusal.{Refusal}
use Rattle.refusals.proofs.Never.{never}
use Rattle.refusals.proofs.Pick.{at_true, at_false}
use Rattle.refusals.proofs.Answers.{fine_value}
use Rattle.opcodes.specs.declared.Code.{Code}
use Rattle.opcodes.specs.Encode.{code}
use Rattle.tape.specs.Kinds.{instruction}
use Rattle.tape.specs.Record.{bytes_at}
use Rattle.form.specs.Statements.{What, Instruction, Open, Close, Label, Constant, SetPlace, Byte, Word, Screen, what_of, is_inner, is_last}
use Rattle.form.specs.Statements.{statement_of, statements_at}
use Rattle.form.proofs.Statements.{statements_inner, statements_one}
use Rattle.evaluator.specs.Expression.{Value, Number, Unresolved, Refuses}
use Rattle.walk.specs.declared.Walk.{Walk}
use Rattle.walk.specs.Walk.{here, step}
use Rattle.walk.specs.Values.{eq_value, number_of, value_at}
use Rattle.walk.specs.Numbers.{reads_noted, value_of}
use Rattle.compares.specs.declared.Compares.{Compares}
use Rattle.compares.specs.Compared.{plain}
use Rattle.tries.specs.Try.{compared, try_of}
use Rattle.tries.specs.Tries.{Trying, try_at, tried}
use Rattle.tries.specs.Steps.{place_behind, walk_behind, tried_over}
use Rattle.tries.proofs.Lengths.{try_length, try_short, behind_step}
use Rattle.tries.proofs.Passed.{tried_has}
use Rattle.tries.proofs.Lengths.{behind_bytes}
use Rattle.tries.proofs.Advancing.{fine_code, fault_code}
use Rattle.record_lines.specs.Records as Records
use Rattle.record_lines.specs.Records.{line_of}

-- ---- a try where nothing is compared

uncompared : (r : Option Refusal) (own : Option ℤ) (z : ℤ) (at : ℕ) {bs : List ℕ} → compared r own z at ≡ Fine bs → Fine [] ≡ Fine bs
uncompared None own z at e = e
uncompared (Some why) own z at {bs} e = go (eq_value own (Some z)) _ e
  where
    go : (t : Bool) (n : ℕ) → pick t (Fine []) (Fault n at) ≡ Fine bs → Fine [] ≡ Fine bs
    go true n e = e
    go false n e = never (cc)

-- the bytes of a statement that passed are those of the same statement there, whatever number its name has
module _ (c : Compares) (own other : Option ℤ) (place : ℤ) (at : ℕ) where
  try_plain : (x : What) (v : Value) {bs : List ℕ} → try_of c own place at x v ≡ Fine bs → try_of plain other place at x v ≡ Fine bs
  try_plain (Label id) v e = uncompared c.label own place at e
  try_plain (Constant id) (Number z) e = uncompared c.constant own z at e
  try_plain (Constant id) (Unresolved i) e = e
  try_plain (Constant id) (Refuses n i) e = e
  try_plain (Open id) v e = e
  try_plain Close v e = e
  try_plain (Instruction mnemonic mode suffix) v e = e
  try_plain SetPlace v e = e
  try_plain Byte v e = e
  try_plain Word v e = e
  try_plain (Screen petscii) v e = e

-- ---- the bytes of a record

-- tried at a place where nothing is compared
abbrev alone : ℤ → ℕ → List ℕ → Value → AnswerAt (List ℕ)
alone z at r v = try_of plain None z at (what_of r) v

tried_alone : {x : AnswerAt Code} {d : Compares} (z : ℤ) (at : ℕ) (r : List ℕ) (v : Value) → d ≡ plain
    → x ≡ At.mapped code (try_of d None z at (what_of r) v) → x ≡ At.mapped code (alone z at r v)
tried_alone z at r v is told = told ∙ ap (λ (d : Compares). At.mapped code (try_of d None z at (what_of r) v)) is

-- none where it is a part of an expression
abbrev pub bytes_here : ℕ → ℕ → List ℕ → Value → List ℕ
bytes_here place at r v = pick (is_inner r) [] (part (alone (pos place) at r v))

module _ (place at : ℕ) (r : List ℕ) (v : Value) {t : Bool} (is : t ≡ is_inner r) where
  pub bytes_inner : {k : Code} → t ≡ true → k ≡ code [] → k ≡ code (bytes_here place at r v)
  bytes_inner e h = h ∙ ap code (at_true [] (part (alone (pos place) at r v)) (sym is ∙ e))

  -- z: the place, as the code hands it to the try
  module _ (e : t ≡ false) {z : ℤ} (z-is : z ≡ pos place) where
    bytes_outer : {k : Code} → k ≡ code (part (alone z at r v)) → k ≡ code (bytes_here place at r v)
    bytes_outer h =
        h ∙ ap (λ (y : ℤ). code (part (alone y at r v))) z-is ∙ ap code (at_false [] (part (alone (pos place) at r v)) (sym is ∙ e))

    -- d: what the try compares, which is nothing
    module _ {d : Compares} (d-is : d ≡ plain) where
      abbrev tries_alone : AnswerAt Code
      tries_alone = At.mapped code (try_of d None z at (what_of r) v)

      pub bytes_refused : {k : Code} {n i : ℕ} → Fault n i ≡ tries_alone → k ≡ code [] → k ≡ code (bytes_here place at r v)
      bytes_refused {n = n} {i = i} told h =
          let fault = fault_code (alone z at r v) n i (tried_alone z at r v d-is told) in
          bytes_outer (h ∙ ap (λ (a : AnswerAt (List ℕ)). code (part a)) (sym fault))

      pub bytes_fine : {k : Code} → Fine k ≡ tries_alone → k ≡ code (bytes_here place at r v)
      bytes_fine {k} told = bytes_outer (fine_code (alone z at r v) k (tried_alone z at r v d-is told)).1

-- ---- behind it

-- v: what the code reads behind the record r, where the tries are at t
module _ (tape nodes : List ℕ) (numbers : ℕ → Option ℤ) (at : ℕ) (r : List ℕ) (v : Value) (t : Trying) where
  abbrev reads : (ℕ → Option ℤ) → ℤ → ℕ → Value
  reads = reads_noted tape nodes

  abbrev lines : Walk → ℕ → List ℕ
  lines w i = Records.lines reads numbers w (statements_at tape i)

  abbrev bytes : List ℕ
  bytes = bytes_here t.walk.place at r v

  -- the lines go on where the tries do
  pub record Behind (u : Trying) : Type 0 where
    pub shown : lines t.walk at ≡ line_of t.walk.place (what_of r) bytes ++ lines u.walk (at + length r)
    pub short : length bytes ≤ 3
    pub place : place_behind (get_or r 0 0) v t.walk.place (length bytes) ≡ u.walk.place

  module _ (is : r ≡ bytes_at tape at) (more : is_last r ≡ false) where
    goes_on : is_last (bytes_at tape at) ≡ false
    goes_on = ap is_last (sym is) ∙ more

    inner_behind : is_inner r ≡ true → Behind t
    inner_behind e =
        let nothing : [] ≡ bytes = at_true [] (part (alone (here t.walk) at r v)) e in
        let k = get_or r 0 0 in
        record {
          shown =
              ap (Records.lines reads numbers t.walk) (statements_inner tape at goes_on (ap is_inner (sym is) ∙ e))
              ∙ (λ i. line_of t.walk.place (what_of r) (nothing i) ++ lines t.walk (at + length (sym is i)));
          short = omega (arith, ap length nothing);
          place =
              ap (place_behind k v t.walk.place) (ap length (sym nothing))
              ∙ sym (behind_bytes k v t.walk.place 0 (λ p. omega (arith, ltb-true k instruction e, p)))
              ∙ omega arith;
        }

    -- c: what is compared
    module _ (v_is : v ≡ value_of tape nodes numbers (here t.walk) r (at + length r)) (c : Compares) {u : Trying} where
      one_behind : is_inner r ≡ false → tried reads c numbers t (statement_of at r) ≡ Fine u → Behind u
      unfolding value_of try_at walk_behind
      one_behind e passed =
          let w = t.walk in
          let own = numbers (suc w.names) in
          let there = value_at reads numbers w (statement_of at r) in
          let value : v ≡ there = v_is in
          let p = tried_has reads c numbers t (statement_of at r) passed in
          let fine = ap (try_of c own (here w) at (what_of r)) value ∙ p.fine in
          let mine = ap part (try_plain c own None (here w) at (what_of r) v fine) in
          let listed = ap part (try_plain c own own (here w) at (what_of r) there p.fine) in
          let same : bytes ≡ p.bytes = sym (at_false [] (part (alone (here w) at r v)) e) ∙ mine in
          let long = ap length same ∙ try_length c own (here w) at (what_of r) v p.bytes fine in
          record {
            shown =
                ap (Records.lines reads numbers w)
                (statements_one tape at goes_on (ap is_inner (sym is) ∙ e)
                ∙ ap (λ (x : List ℕ). statement_of at x ∷ statements_at tape (at + length x)) (sym is))
                ∙ (λ i. line_of w.place (what_of r) ((listed ∙ sym same) i) ++ lines (p.is i).walk (at + length r));
            short = omega (arith, ap length same, try_short c own (here w) at (what_of r) v p.bytes fine);
            place =
                ap (λ (x : Walk). x.place) (behind_step w r (get_or r 0 0) refl v (length bytes) long)
                ∙ ap (λ (y : Value). (step w (what_of r) (number_of y)).place) value
                ∙ ap (λ (x : Trying). x.walk.place) p.is;
          }

      pub behind : tried_over reads c numbers t at r ≡ Fine u → Behind u
      unfolding tried_over
      behind e = go (is_inner r) refl e
        where
          go : (i : Bool) → is_inner r ≡ i → pick i (Fine t) (tried reads c numbers t (statement_of at r)) ≡ Fine u → Behind u
          go true is k = subst Behind (fine_value k) (inner_behind is)
          go false is k = one_behind is k
