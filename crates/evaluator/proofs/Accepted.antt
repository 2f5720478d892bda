-- An expression whose form is accepted ends where its bytes do, and only arithmetic refuses it: the form's stack of depths and the
-- evaluator's calls go over the same records. Assumes nothing.
use Rattle.std.specs.Prelude.{Option, None, Some}
use mathlib.Core.Bool.{Bool, true, false, ◌&&◌, ◌||◌}
use mathlib.Core.List.{List, [], ◌∷◌, ◌++◌}
use mathlib.Core.Path.{◌≡◌, refl, sym, ap, ◌∙◌}
use Prim.Native.Nat.{ℕ, zero, suc, ◌+◌, ◌≤◌, ◌<◌}
use native.Mathlib.Decide.{dec_lt}
use native.Mathlib.Omega.{arith}
use lib.Dec.{eqb, leb}
use lib.IntN.{ℤ, neg_ℤ}
use lib.ListN.{length, get_or, replicate}
use borrow.Author.Tests.{ne_eqb, lt-leb, eqb-true, leb-true}
use mir.Syntax.{w64}
use mir.Val.{to_z}
use Rattle.refusals.proofs.Never.{never}
use Rattle.refusals.specs.Answer.{Answer, pick}
use Rattle.refusals.specs.AnswerAt as A
use Rattle.refusals.specs.AnswerAt.{AnswerAt, Fine, Fault}
use Rattle.refusals.specs.Table.{argument, bad_record, too_deep}
use Rattle.operators.specs.Operators.{not_of}
use Rattle.operators.proofs.Refusing.{Arithmetic, done, out, either, fit_arithmetic, applied_arithmetic}
use Rattle.little.specs.Little.{number_at}
use Rattle.symbols.specs.declared.SymbolTable.{SymbolTable}
use Rattle.symbols.specs.Symbols.{is_node}
use Rattle.tape.specs.Kinds.{number, current_place, flags, binary, instruction, open_scope, close_scope, constant, set_place, byte, word}
use Rattle.tape.specs.Kinds.{Row, table, lookup, size_of, is_expression, is_name}
use Rattle.tape.specs.Record.{bytes_at}
use Rattle.tape.specs.Walk.{Walk}
use Rattle.tape.proofs.Records.{expression_known, expression_below, record_end, record_kind}
use Rattle.form.specs.Form.{Pending, pending, max_depth, expression_fault, outside_fault, head_fault}
use Rattle.form.specs.Form.{range_fault, body_fault, fault_of, has_expression, followed, scopes_after, after, expression_form}
use Rattle.form.proofs.Faults.{body_binary}
use Rattle.form.proofs.Reading.{head_shallow, read_head}
use Rattle.form.proofs.Sound.{read_at, Sound, form_sound, also_fine, sound_inside, sound_head, sound_whole, sound_fault, sound_go}
use Rattle.evaluator.specs.Expression.{Value, Number, Unresolved, Refuses, Meaning, valued, flagged, changed, joined, named}
use Rattle.evaluator.specs.Expression.{inner_at, leaf, expression}
use Rattle.evaluator.specs.Evaluate.{from_scope, answered, evaluate_of}
use Rattle.evaluator.specs.Accepted.{Computed, Complete}
use Rattle.evaluator.specs.Accepted.{Answers, ByArgument, ByForm, ByNumber, ByArithmetic, ByName}

-- ---- values, at a record that lies within len bytes

flagged_arithmetic : (f : ℕ) (z : ℤ) → Arithmetic (flagged f z)
unfolding flagged
flagged_arithmetic f z = either (eqb f 1) done (either (eqb f 2) (fit_arithmetic (neg_ℤ z)) (fit_arithmetic (neg_ℤ (not_of z))))

module _ (len at : ℕ) (inside : at < len) where
  valued_computed : {a : Answer ℤ} → Arithmetic a → Computed len (valued at a)
  valued_computed done = tt
  valued_computed out = (refl, inside)

  named_computed : (m : ℕ) (z : Option ℤ) → Computed len (named m at z)
  named_computed m None = inside
  named_computed m (Some z) = tt

  changed_computed : (f : ℕ) (v : Value) → Computed len v → Computed len (changed at f v)
  changed_computed f (Number a) c = valued_computed (flagged_arithmetic f a)
  changed_computed f (Unresolved i) c = c
  changed_computed f (Refuses n i) c = c

  joined_computed : (op : ℕ) → op ≤ 15 → (v w : Value) → Computed len v → Computed len w → Computed len (joined at op v w)
  joined_computed op h (Refuses n i) w c e = c
  joined_computed op h (Unresolved i) (Refuses n j) c e = e
  joined_computed op h (Unresolved i) (Unresolved j) c e = c
  joined_computed op h (Unresolved i) (Number b) c e = c
  joined_computed op h (Number a) (Refuses n j) c e = e
  joined_computed op h (Number a) (Unresolved j) c e = e
  joined_computed op h (Number a) (Number b) c e = valued_computed (applied_arithmetic op a b h)

-- ---- kinds of which expressions are made

-- whether each kind of a table passes a test
abbrev each : (ℕ → Bool) → List Row → Bool
each f [] = true
each f (r ∷ rs) = f r.kind && each f rs

each_kind : (f : ℕ → Bool) (rs : List Row) (k : ℕ) → each f rs ≡ true → (lookup rs k ≡ 0 → ⊥) → f k ≡ true
each_kind f [] k e z = absurd (z refl)
each_kind f (r ∷ rs) k e z = go (f r.kind) refl (eqb k r.kind) refl (each_kind f rs k) e z
  where
    go : (s : Bool) → f r.kind ≡ s → (t : Bool) → eqb k r.kind ≡ t
        → (each f rs ≡ true → (lookup rs k ≡ 0 → ⊥) → f k ≡ true)
        → s && each f rs ≡ true → (pick t (suc r.body) (lookup rs k) ≡ 0 → ⊥) → f k ≡ true
    go true h true q rest e z = ap f (eqb-true k r.kind q) ∙ h
    go true h false q rest e z = rest e z
    go false h t q rest e z = never (cc)

-- a kind that no expression follows
abbrev is_leaf : ℕ → Bool
is_leaf k = eqb k number || eqb k current_place || is_name k

module _ (k : ℕ) (is : is_expression k ≡ true) where
  scopes_stay : (n : ℕ) → scopes_after n k ≡ n
  unfolding scopes_after
  scopes_stay n =
      let low = expression_below k is in
      rw (ne_eqb k open_scope (λ e. omega arith), ne_eqb k close_scope (λ e. omega arith))

  followed_binary : eqb k binary ≡ true → (mode : ℕ) → followed k mode ≡ 2
  unfolding followed
  followed_binary e mode = rw e

  module _ (b : eqb k binary ≡ false) where
    followed_flags : eqb k flags ≡ true → (mode : ℕ) → followed k mode ≡ 1
    unfolding followed
    followed_flags e mode = rw (b, e)

    module _ (f : eqb k flags ≡ false) where
      followed_leaf : (mode : ℕ) → followed k mode ≡ 0
      unfolding followed has_expression
      followed_leaf mode =
          let low = expression_below k is in
          rw (
            b,
            f,
            ne_eqb k instruction (λ e. omega arith),
            ne_eqb k constant (λ e. omega arith),
            ne_eqb k set_place (λ e. omega arith),
            ne_eqb k byte (λ e. omega arith),
            ne_eqb k word (λ e. omega arith),
          )

      is_leaf_lem : is_leaf k ≡ true
      unfolding size_of is_name
      is_leaf_lem =
          let sort : ℕ → Bool = λ i. leb instruction i || eqb i binary || eqb i flags || is_leaf i in
          let e : sort k ≡ true = each_kind sort table k refl (expression_known k is) in
          rw (lt-leb instruction k (expression_below k is), b, f) at e

head_expression : (alone : Bool) (d k : ℕ) → 0 < d → head_fault alone d k ≡ 0 → is_expression k ≡ true
unfolding head_fault expression_fault
head_expression alone d k h e = go (is_expression k) (leb d max_depth) (rw (ne_eqb d 0 (λ z. omega arith)) at e)
  where
    go : (q t : Bool) → pick q (pick t 0 too_deep) bad_record ≡ 0 → q ≡ true
    go true t e = refl
    go false t e = absurd (omega arith)

-- ---- the operator of a record without fault

fault_none : (n : ℕ) (r : List ℕ) → fault_of n r ≡ 0 → body_fault r ≡ 0
unfolding fault_of
fault_none n r e = go (eqb (body_fault r) 0) refl _ e
  where
    go : (t : Bool) → eqb (body_fault r) 0 ≡ t → (x : ℕ) → pick t x (body_fault r) ≡ 0 → body_fault r ≡ 0
    go true p x e = eqb-true _ 0 p
    go false p x e = e

range_most : (least most a : ℕ) → range_fault least most a ≡ 0 → a ≤ most
unfolding range_fault
range_most least most a e = go (leb least a) (leb a most) refl e
  where
    go : (p q : Bool) → leb a most ≡ q → pick (p && q) 0 bad_record ≡ 0 → a ≤ most
    go true true h e = leb-true a most h
    go true false h e = absurd (omega arith)
    go false q h e = absurd (omega arith)

operator_most : (n : ℕ) (r : List ℕ) → fault_of n r ≡ 0 → get_or r 0 0 ≡ binary → get_or r 1 0 ≤ 15
operator_most n r z e =
    let body = body_binary r (get_or r 0 0) refl (get_or r 1 0) refl (λ i. omega arith) (λ f. omega arith) e in
    range_most 0 15 (get_or r 1 0) (body ∙ fault_none n r z)

-- ---- a record of the bytes

-- a meaning at an offset, where an expression of depth d is to come and then those of ds, n scopes being open: what the form reads
-- on from where the expression ends is what it reads from the offset on, and no more than ds is to come there
pub record Passed (alone : Bool) (bytes : List ℕ) (n d : ℕ) (ds : List ℕ) (at : ℕ) (m : Meaning) : Type 0 where
  pub reading : read_at alone bytes (pending n (d ∷ ds)) at ≡ read_at alone bytes (pending n ds) m.0
  pub within : m.0 ≤ length bytes
  pub value : Computed (length bytes) m.1

module _ (bytes : List ℕ) (at : ℕ) where
  abbrev here : List ℕ
  here = bytes_at bytes at

  abbrev kind : ℕ
  kind = get_or here 0 0

  -- the byte behind its kind
  abbrev first : ℕ
  first = get_or here 1 0

  abbrev next : ℕ
  next = at + length here

  -- a meaning that ends where it does
  abbrev Ends : Meaning → Type 0
  Ends m = (m.0 ≡ next) × Computed (length bytes) m.1

  leaf_ends : (numbers : ℕ → Option ℤ) (place : ℤ) → at < length bytes → is_leaf kind ≡ true → Ends (leaf bytes numbers place at)
  unfolding leaf
  leaf_ends numbers place inside e =
      let v = named first at (numbers at) in
      let c = named_computed (length bytes) at inside first (numbers at) in
      go (eqb kind number) (eqb kind current_place) (is_name kind) e (to_z w64 (number_at 8 here 1)) v c
    where
      go : (p q r : Bool) → p || q || r ≡ true → (z : ℤ) (v : Value) → Computed (length bytes) v
          → Ends (pick p (next, Number z) (pick q (next, Number place) (pick r (next, v) (at, Refuses bad_record at))))
      go true q r e z v c = (refl, tt)
      go false true r e z v c = (refl, tt)
      go false false true e z v c = (refl, c)
      go false false false e z v c = never (cc)

  -- ---- the record that stands where an expression is to come

  module _ (alone : Bool) (n d : ℕ) (ds : List ℕ) where
    abbrev due : Pending
    due = pending n (d ∷ ds)

    -- the bytes may not end here
    more : (alone && eqb (length (d ∷ ds)) 0) ≡ false
    more = go alone
      where
        go : (a : Bool) → (a && eqb (length (d ∷ ds)) 0) ≡ false
        go true = ne_eqb (length (d ∷ ds)) 0 (λ z. omega arith)
        go false = refl

    -- the reading behind it, where j expressions follow it
    abbrev behind : ℕ → Walk Pending
    behind j = read_at alone bytes (pending n (replicate j (d + 1) ++ ds)) next

    module _ (some-depth : 0 < d) (sound : Sound alone bytes due at) where
      stands : at < length bytes
      stands = sound_inside alone bytes at due more sound

      shallow : d ≤ max_depth
      shallow = head_shallow alone d (get_or bytes at 0) (sound_head alone bytes at due more sound)

      ends_within : next ≤ length bytes
      ends_within = record_end bytes at (length bytes) (omega (arith, stands)) (omega arith)

      inner : is_expression kind ≡ true
      inner =
          let is = head_expression alone d (get_or bytes at 0) some-depth (sound_head alone bytes at due more sound) in
          let same = record_kind bytes at stands (expression_known (get_or bytes at 0) is) (sound_whole alone bytes at due more sound) in
          ap is_expression same ∙ is

      read_on : {j : ℕ} → followed kind (get_or here 2 0) ≡ j → read_at alone bytes due at ≡ behind j
      unfolding after
      read_on e =
          let low = expression_below kind inner in
          sound_go alone bytes at due more sound (λ e. omega arith) ∙ rw (scopes_stay kind inner n, e)

      -- ---- the expression that begins with it, by its kind

      module _ (numbers : ℕ → Option ℤ) (place : ℤ) (f : ℕ) where
        abbrev Passes : Meaning → Type 0
        Passes m = Passed alone bytes n d ds at m

        -- an expression that follows
        abbrev means : ℕ → Meaning
        means i = expression bytes numbers place f i

        pass_leaf : eqb kind binary ≡ false → eqb kind flags ≡ false → Passes (expression bytes numbers place (suc f) at)
        unfolding expression inner_at
        pass_leaf b g =
            let leaf-is = leaf_ends numbers place stands (is_leaf_lem kind inner b g) in
            rw (b, g)
            (record {
              reading = read_on (followed_leaf kind inner b g _) ∙ ap (read_at alone bytes (pending n ds)) (sym leaf-is.0);
              within = omega (arith, leaf-is.0, ends_within);
              value = leaf-is.1;
            })

        -- it is so one deeper
        module _ (deeper : (es : List ℕ) (i : ℕ) → Sound alone bytes (pending n ((d + 1) ∷ es)) i
            → Passed alone bytes n (d + 1) es i (means i)) where
          pass_flags : eqb kind binary ≡ false → eqb kind flags ≡ true → Passes (expression bytes numbers place (suc f) at)
          unfolding expression inner_at
          pass_flags b g =
              let on : read_at alone bytes due at ≡ behind 1 = read_on (followed_flags kind inner b g _) in
              let one = deeper ds next (also_fine alone on sound) in
              rw (b, g)
              (record {
                reading = on ∙ one.reading;
                within = one.within;
                value = changed_computed (length bytes) at stands first (means next).1 one.value;
              })

          pass_binary : eqb kind binary ≡ true → Passes (expression bytes numbers place (suc f) at)
          unfolding expression inner_at
          pass_binary b =
              let on : read_at alone bytes due at ≡ behind 2 = read_on (followed_binary kind inner b _) in
              let l = means next in
              let r = means l.0 in
              let left = deeper ((d + 1) ∷ ds) next (also_fine alone on sound) in
              let right = deeper ds l.0 (also_fine alone (on ∙ left.reading) sound) in
              let most = operator_most n here (sound_fault alone bytes at due more sound) (eqb-true _ binary b) in
              rw b
              (record {
                reading = on ∙ left.reading ∙ right.reading;
                within = right.within;
                value = joined_computed (length bytes) at stands first most l.1 r.1 left.value right.value;
              })

-- ---- an expression anywhere: d is the depth of its first record, and f records of depth are left

module _ (alone : Bool) (bytes : List ℕ) (numbers : ℕ → Option ℤ) (place : ℤ) (n : ℕ) where
  pub passed : (f d : ℕ) (ds : List ℕ) (at : ℕ) → 0 < d → max_depth < d + f → Sound alone bytes (pending n (d ∷ ds)) at
      → Passed alone bytes n d ds at (expression bytes numbers place f at)
  passed zero d ds at h l sound = absurd (omega (arith, shallow bytes at alone n d ds h sound))
  passed (suc f) d ds at h l sound =
      go (eqb (kind bytes at) binary) refl (eqb (kind bytes at) flags) refl (λ es i s. passed f (d + 1) es i (omega arith) (omega arith) s)
    where
      go : (p : Bool) → eqb (kind bytes at) binary ≡ p → (q : Bool) → eqb (kind bytes at) flags ≡ q
          → ((es : List ℕ) (i : ℕ) → Sound alone bytes (pending n ((d + 1) ∷ es)) i
          → Passed alone bytes n (d + 1) es i (expression bytes numbers place f i))
          → Passed alone bytes n d ds at (expression bytes numbers place (suc f) at)
      go true b q g deeper = pass_binary bytes at alone n d ds h sound numbers place f deeper b
      go false b true g deeper = pass_flags bytes at alone n d ds h sound numbers place f deeper b g
      go false b false g deeper = pass_leaf bytes at alone n d ds h sound numbers place f b g

-- ---- an expression alone

-- behind it nothing stands
sound_all : (bytes : List ℕ) (at : ℕ) → at ≤ length bytes → Sound true bytes (pending 0 []) at → at ≡ length bytes
unfolding head_fault outside_fault
sound_all bytes at within sound =
    elim (dec_lt at (length bytes)) [
      | yes h ↦ let fine = also_fine true (read_head true bytes at (pending 0 []) h (λ e. omega arith)) sound in never (cc)
      | no h ↦ omega arith
    ]

pub accepted : (bytes : List ℕ) (numbers : ℕ → Option ℤ) (place : ℤ) → expression_form bytes ≡ Fine tt
    → Complete bytes (expression bytes numbers place max_depth 0)
accepted bytes numbers place fine =
    let sound = form_sound true bytes fine in
    let p = passed true bytes numbers place 0 max_depth 1 [] 0 (omega arith) (omega arith) sound in
    record {
      ends = sound_all bytes (expression bytes numbers place max_depth 0).0 p.within (also_fine true p.reading sound);
      value = p.value;
    }

-- ---- the call

answered_computed : (bytes : List ℕ) → expression_form bytes ≡ Fine tt → (v : Value) → Computed (length bytes) v → Answers bytes (answered v)
answered_computed bytes fine (Number z) c = ByNumber fine
answered_computed bytes fine (Unresolved i) c = ByName fine
answered_computed bytes fine (Refuses n i) c = rw c.0 (ByArithmetic fine)

pub evaluate_answers : (bytes : List ℕ) (t : SymbolTable) (scope : ℕ) (place : ℤ) → Answers bytes (evaluate_of bytes t scope place)
unfolding evaluate_of
evaluate_answers bytes t scope place =
    let m = expression bytes (from_scope t scope bytes) place max_depth 0 in
    go (is_node t scope) (expression_form bytes) refl m.1 (λ e. (accepted bytes (from_scope t scope bytes) place e).value)
  where
    go : (b : Bool) (a : AnswerAt (Unit {0})) → expression_form bytes ≡ a → (v : Value)
        → (expression_form bytes ≡ Fine tt → Computed (length bytes) v)
        → Answers bytes (pick b (A.and_then a (λ u. answered v)) (Fault argument 0))
    go true (Fine u) e v c = answered_computed bytes e v (c e)
    go true (Fault n i) e v c = ByForm e
    go false a e v c = ByArgument
