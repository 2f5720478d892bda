-- Notes of names: what is noted at one record, and what is noted, record by record, of a whole tape. Assumes nothing.
use mathlib.Core.Bool.{Bool, true, false}
use mathlib.Core.List.{List, [], ◌∷◌}
use mathlib.Core.Path.{◌≡◌, refl, sym, ap, ◌∙◌, subst}
use Prim.Native.Nat.{ℕ, zero, suc, ◌+◌, ◌-◌, ◌≤◌, ◌<◌}
use native.Mathlib.Decide.{dec_lt}
use native.Mathlib.Nat.{add-zero, add-suc}
use native.Mathlib.Omega.{arith}
use lib.ListN.{length, get_or, set, length-set}
use lib.Seq.{get_or-set_same, get_or-set_other}
use Rattle.refusals.proofs.Never.{never}
use Rattle.refusals.specs.Answer.{pick}
use Rattle.refusals.specs.AnswerAt.{AnswerAt, part}
use Rattle.tape.specs.Kinds.{is_name}
use Rattle.tape.specs.Record.{bytes_at}
use Rattle.tape.proofs.Records.{record_past}
use Rattle.lookup.specs.Lookup.{node_of}
use Rattle.lookup.specs.Notes.{noted, note_of, onward, NameAt, NotedAt, Resolved, notes_from, notes_of}

-- ---- records on

module _ (tape : List ℕ) where
  pub onward_onward : (k j at : ℕ) → onward tape k (onward tape j at) ≡ onward tape (k + j) at
  unfolding onward
  onward_onward k zero at = rw (add-zero k)
  onward_onward k (suc j) at = rw (add-suc k j) (onward_onward k j (at + length (bytes_at tape at)))

  onward_ahead : (k at : ℕ) → at ≤ onward tape k at
  unfolding onward
  onward_ahead zero at = omega arith
  onward_ahead (suc k) at = omega (arith, onward_ahead k (at + length (bytes_at tape at)))

  pub onward_later : (j k at : ℕ) → j ≤ k → onward tape j at ≤ onward tape k at
  onward_later j k at h =
      let e : k - j + j ≡ k = omega arith in
      let same = onward_onward (k - j) j at ∙ ap (λ (i : ℕ). onward tape i at) e in
      subst (λ (i : ℕ). onward tape j at ≤ i) same (onward_ahead (k - j) (onward tape j at))

  -- the record that is passed over
  pub onward_one : (k at : ℕ) → onward tape (suc k) at ≡ onward tape k at + length (bytes_at tape (onward tape k at))
  unfolding onward
  onward_one k at = let e : 1 + k ≡ suc k = omega arith in sym (onward_onward 1 k at ∙ ap (λ (i : ℕ). onward tape i at) e)

-- a name is a record
some_byte : (r : List ℕ) → is_name (get_or r 0 0) ≡ true → 0 < length r
unfolding is_name
some_byte [] e = never (cc)
some_byte (k ∷ r) e = omega arith

name_some : (tape : List ℕ) (at : ℕ) → NameAt tape at → 0 < length (bytes_at tape at)
unfolding NameAt
name_some tape at h = some_byte (bytes_at tape at) h

-- behind the end there is no record
pub none_past : (tape : List ℕ) (at : ℕ) → length tape ≤ at → length (bytes_at tape at) ≡ 0
none_past tape at h = ap (λ (a : AnswerAt (List ℕ)). length (part a)) (record_past tape at h)

-- so a record stands within the tape
some_inside : (tape : List ℕ) (at : ℕ) → 0 < length (bytes_at tape at) → at < length tape
some_inside tape at h =
    elim (dec_lt at (length tape)) [ yes l ↦ l | no l ↦ absurd (omega (arith, none_past tape at (omega arith))) ]

-- ---- what is noted

module _ (nodes : List ℕ) (at : ℕ) (rec links : List ℕ) (edges scope : ℕ) {k : ℕ} (k-is : k ≡ get_or rec 0 0) where
  pub note_other : is_name k ≡ false → nodes ≡ note_of nodes at rec links edges scope
  unfolding note_of
  note_other e = let h : is_name (get_or rec 0 0) ≡ false = rw (← k-is) e in rw h

-- no record is no name
note_none : (nodes : List ℕ) (at : ℕ) (rec links : List ℕ) (edges scope : ℕ) → length rec ≡ 0
    → note_of nodes at rec links edges scope ≡ nodes
unfolding note_of is_name
note_none nodes at [] links edges scope h = refl
note_none nodes at (k ∷ rec) links edges scope h = absurd (omega arith)

-- what is noted at the cursor, and what stays
module _ (links : List ℕ) (edges scope : ℕ) (nodes : List ℕ) (at : ℕ) (rec : List ℕ) where
  note_here : is_name (get_or rec 0 0) ≡ true → at < length nodes
      → get_or (note_of nodes at rec links edges scope) at 0 ≡ noted (node_of links edges scope rec)
  unfolding note_of
  note_here e h = rw (e, get_or-set_same nodes at (noted (node_of links edges scope rec)) 0 h)

  note_there : (i : ℕ) → (i ≡ at → ⊥) → get_or (note_of nodes at rec links edges scope) i 0 ≡ get_or nodes i 0
  unfolding note_of
  note_there i x = go (is_name (get_or rec 0 0))
    where
      go : (b : Bool) → get_or (pick b (set nodes at (noted (node_of links edges scope rec))) nodes) i 0 ≡ get_or nodes i 0
      go true = get_or-set_other nodes at i (noted (node_of links edges scope rec)) 0 x
      go false = refl

  pub note_length : length (note_of nodes at rec links edges scope) ≡ length nodes
  unfolding note_of
  note_length = go (is_name (get_or rec 0 0))
    where
      go : (b : Bool) → length (pick b (set nodes at (noted (node_of links edges scope rec))) nodes) ≡ length nodes
      go true = length-set nodes at (noted (node_of links edges scope rec))
      go false = refl

  note_cursor : (tape : List ℕ) → rec ≡ bytes_at tape at → at < length nodes
      → NotedAt tape links edges scope (note_of nodes at rec links edges scope) at
  unfolding NameAt
  note_cursor tape is room name =
      let h : is_name (get_or rec 0 0) ≡ true = ap (λ (r : List ℕ). is_name (get_or r 0 0)) is ∙ name in
      note_here h room ∙ ap (λ (r : List ℕ). noted (node_of links edges scope r)) is

-- ---- of the names before a cursor, which stands so many records on, the nodes are noted

pub record Going (tape links : List ℕ) (edges : ℕ) (scope : ℕ → ℕ) (nodes : List ℕ) (at : ℕ) : Type 0 where
  pub passed : ℕ
  pub here : at ≡ onward tape passed 0
  pub done : (j : ℕ) → j < passed → NotedAt tape links edges (scope (onward tape j 0)) nodes (onward tape j 0)

module _ (tape links : List ℕ) (edges : ℕ) (scope : ℕ → ℕ) where
  pub going_start : (nodes : List ℕ) → Going tape links edges scope nodes 0
  unfolding onward
  going_start nodes = record { passed = 0; here = refl; done = λ j h. absurd (omega arith) }

  -- nothing stands at the cursor, so there is no name further on
  stuck : (at : ℕ) → length (bytes_at tape at) ≡ 0 → (k : ℕ) → onward tape k at ≡ at
  unfolding onward
  stuck at e zero = refl
  stuck at e (suc k) = let z : at + length (bytes_at tape at) ≡ at = omega arith in ap (onward tape k) z ∙ stuck at e k

  pub going_done : {nodes : List ℕ} {at : ℕ} → Going tape links edges scope nodes at → length (bytes_at tape at) ≡ 0
      → Resolved tape links edges scope nodes
  going_done {nodes} {at} g e k = elim (dec_lt k g.passed) [ yes h ↦ g.done k h | no h ↦ λ name. absurd (after h name) ]
    where
      after : (k < g.passed → ⊥) → NameAt tape (onward tape k 0) → ⊥
      after h name =
          let j : k - g.passed + g.passed ≡ k = omega arith in
          let more = k - g.passed in
          let is : onward tape k 0 ≡ at =
          ap (λ (i : ℕ). onward tape i 0) (sym j)
          ∙ sym (onward_onward tape more g.passed 0)
          ∙ ap (onward tape more) (sym g.here)
          ∙ stuck at e more in
          let some_byte = name_some tape (onward tape k 0) name in
          let none_there : length (bytes_at tape (onward tape k 0)) ≡ 0 = ap (λ (i : ℕ). length (bytes_at tape i)) is ∙ e in
          omega arith

  -- one record more
  pub going_on : {nodes nodes' : List ℕ} {at : ℕ} → Going tape links edges scope nodes at → at < length nodes → {rec : List ℕ}
      → rec ≡ bytes_at tape at
      → nodes' ≡ note_of nodes at rec links edges (scope at) → Going tape links edges scope nodes' (at + length rec)
  going_on {nodes} {nodes'} {at} g room {rec} is new = record {
    passed = suc g.passed;
    here =
        ap (λ (r : List ℕ). at + length r) is
        ∙ ap (λ (i : ℕ). i + length (bytes_at tape i)) g.here
        ∙ sym (onward_one tape g.passed 0);
    done = λ j h. elim (dec_lt j g.passed) [ yes l ↦ before j l | no l ↦ here j (omega arith) ];
  }
    where
      before : (j : ℕ) → j < g.passed → NotedAt tape links edges (scope (onward tape j 0)) nodes' (onward tape j 0)
      before j l name =
          let first = onward_one tape j 0 in
          let later = onward_later tape (suc j) g.passed 0 l in
          let apart : onward tape j 0 ≡ at → ⊥ = λ e. omega (arith, name_some tape (onward tape j 0) name, g.here) in
          ap (λ (l : List ℕ). get_or l (onward tape j 0) 0) new
          ∙ note_there links edges (scope at) nodes at rec (onward tape j 0) apart
          ∙ g.done j l name

      here : (j : ℕ) → j ≡ g.passed → NotedAt tape links edges (scope (onward tape j 0)) nodes' (onward tape j 0)
      here j e =
          subst (λ (i : ℕ). NotedAt tape links edges (scope i) nodes' i) (g.here ∙ ap (λ (i : ℕ). onward tape i 0) (sym e))
          (λ name. ap (λ (l : List ℕ). get_or l at 0) new ∙ note_cursor links edges (scope at) nodes at rec tape is room name)

-- ---- the notes of a whole tape

module _ (tape links : List ℕ) (edges : ℕ) (scope : ℕ → ℕ) where
  -- where no record stands nothing more is noted
  notes_stuck : (n at : ℕ) (nodes : List ℕ) → length (bytes_at tape at) ≡ 0 → notes_from tape links edges scope n at nodes ≡ nodes
  unfolding notes_from
  notes_stuck zero at nodes e = refl
  notes_stuck (suc n) at nodes e =
      let r = bytes_at tape at in
      let z : at + length r ≡ at = omega arith in
      ap (λ (i : ℕ). notes_from tape links edges scope n i (note_of nodes at r links edges (scope at))) z
      ∙ ap (notes_from tape links edges scope n at) (note_none nodes at r links edges (scope at) e)
      ∙ notes_stuck n at nodes e

  notes_going : (n at : ℕ) (nodes : List ℕ) → Going tape links edges scope nodes at → length tape ≤ at + n → length tape ≤ length nodes
      → Resolved tape links edges scope (notes_from tape links edges scope n at nodes)
  unfolding notes_from
  notes_going zero at nodes g h room = going_done tape links edges scope g (none_past tape at (omega arith))
  notes_going (suc n) at nodes g h room =
      let r = bytes_at tape at in
      elim (dec_lt 0 (length r)) [
        | yes some ↦
            let inside = some_inside tape at some in
            notes_going n (at + length r) (note_of nodes at r links edges (scope at))
            (going_on tape links edges scope g (omega arith) refl refl)
            (omega arith) (omega (arith, note_length links edges (scope at) nodes at r))
        | no none ↦
            let e : length r ≡ 0 = omega arith in
            subst (Resolved tape links edges scope) (sym (notes_stuck (suc n) at nodes e)) (going_done tape links edges scope g e)
      ]

  pub notes_resolved : (nodes : List ℕ) → length tape ≤ length nodes
      → Resolved tape links edges scope (notes_of tape links edges scope nodes)
  notes_resolved nodes h = notes_going (length tape) 0 nodes (going_start tape links edges scope nodes) (omega arith) h

-- ---- a loop that notes each record: the notes from here on are those of the whole tape

pub record Noting (tape links : List ℕ) (edges : ℕ) (scope : ℕ → ℕ) (first nodes : List ℕ) (at : ℕ) : Type 0 where
  pub passed : ℕ
  pub few : passed ≤ at
  pub rest : notes_of tape links edges scope first ≡ notes_from tape links edges scope (length tape - passed) at nodes
  pub size : length nodes ≡ length first

module _ (tape links : List ℕ) (edges : ℕ) (scope : ℕ → ℕ) (first : List ℕ) where
  pub noting_start : Noting tape links edges scope first first 0
  noting_start =
      let e : length tape ≡ length tape - 0 = omega arith in
      record { passed = 0; few = omega arith; rest = ap (λ (n : ℕ). notes_from tape links edges scope n 0 first) e; size = refl }

  -- one record more
  pub noting_on : {nodes nodes' : List ℕ} {at : ℕ} → Noting tape links edges scope first nodes at → at < length tape → {rec : List ℕ}
      → rec ≡ bytes_at tape at → (length rec ≡ 0 → ⊥)
      → nodes' ≡ note_of nodes at rec links edges (scope at) → Noting tape links edges scope first nodes' (at + length rec)
  unfolding notes_from
  noting_on {nodes} {nodes'} {at} g inside {rec} is some new =
      let n = length tape - suc g.passed in
      let e : length tape - g.passed ≡ suc n = omega (arith, g.few) in
      record {
        passed = suc g.passed;
        few = omega (arith, g.few);
        rest =
            g.rest
            ∙ ap (λ (m : ℕ). notes_from tape links edges scope m at nodes) e
            ∙ ap (λ (r : List ℕ). notes_from tape links edges scope n (at + length r) (note_of nodes at r links edges (scope at))) (sym is)
            ∙ ap (notes_from tape links edges scope n (at + length rec)) (sym new);
        size = ap length new ∙ note_length links edges (scope at) nodes at rec ∙ g.size;
      }

  -- no record stands at the cursor
  pub noting_done : {nodes : List ℕ} {at : ℕ} → Noting tape links edges scope first nodes at → length (bytes_at tape at) ≡ 0
      → nodes ≡ notes_of tape links edges scope first
  noting_done {nodes} {at} g e = sym (g.rest ∙ notes_stuck tape links edges scope (length tape - g.passed) at nodes e)

  -- the cursor is past the end
  pub noting_past : {nodes : List ℕ} {at : ℕ} → Noting tape links edges scope first nodes at → length tape ≤ at
      → nodes ≡ notes_of tape links edges scope first
  noting_past {nodes} {at} g h = noting_done g (none_past tape at h)
