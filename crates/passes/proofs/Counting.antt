-- How many names a tape declares, counted record by record. Assumes nothing.
use mathlib.Core.Bool.{Bool, true, false, ◌&&◌}
use mathlib.Core.List.{List, []}
use mathlib.Core.Path.{◌≡◌, refl, sym, ap, ◌∙◌}
use Prim.Native.Nat.{ℕ, ◌+◌, ◌≤◌, ◌<◌}
use native.Mathlib.Omega.{arith}
use lib.Dec.{leb, ltb}
use lib.ListN.{length, get_or}
use borrow.Author.Tests.{ltb-true, le-leb, leb-true}
use Rattle.refusals.specs.Answer.{pick}
use Rattle.refusals.proofs.Never.{never}
use Rattle.edges.specs.Edges.{max_nodes}
use Rattle.tape.specs.Record.{bytes_at}
use Rattle.form.specs.Form.{declares, max_tape}
use Rattle.form.specs.Statements.{is_last, statements_at, statements}
use Rattle.form.proofs.Statements.{not_empty, statements_past, statements_last}
use Rattle.walk.specs.Values.{declarations}
use Rattle.walk.proofs.Counting.{here, next, names_on}
use Rattle.passes.specs.Settle.{is_allowed}

-- n names were declared before the offset
pub record Counted (tape : List ℕ) (n at : ℕ) : Type 0 where
  pub all : n + declarations (statements_at tape at) ≡ declarations (statements tape)
  pub few : n ≤ at

pub counted_start : {tape : List ℕ} → Counted tape 0 0
counted_start = record { all = omega arith; few = omega arith }

module _ {tape : List ℕ} {n at : ℕ} (h : Counted tape n at) where
  counted_all : statements_at tape at ≡ [] → n ≡ declarations (statements tape)
  counted_all e = omega (arith, h.all, ap declarations e)

  pub counted_past : length tape ≤ at → n ≡ declarations (statements tape)
  counted_past le = counted_all (statements_past tape at le)

  -- r is the record there, and l tells whether it is the last one
  module _ {r : List ℕ} (r-is : r ≡ bytes_at tape at) {l : Bool} (l-is : l ≡ is_last r) where
    pub counted_last : l ≡ true → n ≡ declarations (statements tape)
    counted_last e = counted_all (statements_last tape at (sym (l-is ∙ ap is_last r-is) ∙ e))

    pub counted_on : l ≡ false → {k : ℕ} → k ≡ get_or r 0 0 → {m : ℕ} → m ≡ pick (declares k) (n + 1) n → Counted tape m (at + length r)
    counted_on e {k} k-is {m} m-is =
        let more : is_last (here tape at) ≡ false = sym (l-is ∙ ap is_last r-is) ∙ e in
        let kind : k ≡ get_or (here tape at) 0 0 = k-is ∙ ap (λ (x : List ℕ). get_or x 0 0) r-is in
        rw r-is (go (declares (get_or (here tape at) 0 0)) (names_on tape at more) (m-is ∙ ap (λ (x : ℕ). pick (declares x) (n + 1) n) kind)
        (not_empty (here tape at) more))
      where
        go : (d : Bool) → declarations (statements_at tape at) ≡ pick d 1 0 + declarations (statements_at tape (next tape at))
            → m ≡ pick d (n + 1) n → 0 < length (here tape at) → Counted tape m (next tape at)
        go true names e some = record { all = omega (arith, h.all); few = omega (arith, h.few) }
        go false names e some = record { all = omega (arith, h.all); few = omega (arith, h.few) }

-- ---- whether a tape and an initial place are allowed

module _ (tape : List ℕ) (initial : ℕ) where
  pub allowed_by : length tape ≤ max_tape → initial ≤ 65536 → {n : ℕ} → n ≡ declarations (statements tape)
      → ltb n max_nodes ≡ is_allowed tape initial
  unfolding is_allowed
  allowed_by a b e = rw (le-leb (length tape) max_tape a, le-leb initial 65536 b, e)

  pub allowed : is_allowed tape initial ≡ true → (length tape ≤ max_tape) × (initial ≤ 65536) × (declarations (statements tape) < max_nodes)
  unfolding is_allowed
  allowed e = go (leb (length tape) max_tape) refl (leb initial 65536) refl (ltb (declarations (statements tape)) max_nodes) refl e
    where
      go : (a : Bool) → leb (length tape) max_tape ≡ a → (b : Bool) → leb initial 65536 ≡ b → (c : Bool)
          → ltb (declarations (statements tape)) max_nodes ≡ c → (a && b && c) ≡ true
          → (length tape ≤ max_tape) × (initial ≤ 65536) × (declarations (statements tape) < max_nodes)
      go true p true q true r e =
          (leb-true (length tape) max_tape p, leb-true initial 65536 q, ltb-true (declarations (statements tape)) max_nodes r)
      go true p true q false r e = never (cc)
      go true p false q c r e = never (cc)
      go false p b q c r e = never (cc)
