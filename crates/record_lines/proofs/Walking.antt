-- The walk over a tape whose statements have passed: what is laid so far, then the lines from here, are the lines from the start.
-- Assumes nothing.
use Rattle.std.specs.Prelude.{Option}
use mathlib.Core.Bool.{Bool, true, false}
use mathlib.Core.List.{List, []}
use mathlib.Core.Path.{◌≡◌, refl, sym, ap, ◌∙◌, subst}
use Prim.Native.Nat.{ℕ, ◌+◌, ◌≤◌, ◌<◌}
use native.Mathlib.Omega.{arith}
use lib.IntN.{ℤ, pos}
use lib.ListN.{length, get_or}
use Rattle.refusals.specs.AnswerAt.{Fine, and_then}
use Rattle.refusals.proofs.Answers.{fine_then}
use Rattle.opcodes.specs.declared.Code.{Code}
use Rattle.opcodes.specs.Encode.{code}
use Rattle.page.specs.Page.{laid}
use Rattle.page.proofs.Laying.{goes_on, all_laid}
use Rattle.tape.specs.Record.{bytes_at}
use Rattle.tape.proofs.Records.{record_end}
use Rattle.form.specs.Statements.{what_of, is_last, statements, statements_at}
use Rattle.form.proofs.Statements.{not_empty, statements_past, statements_last}
use Rattle.evaluator.specs.Expression.{Value}
use Rattle.walk.specs.Walk.{origin, walk, begin}
use Rattle.walk.specs.Numbers.{reads_noted, value_of}
use Rattle.tries.specs.Tries.{Page, Trying, trying, start, tries}
use Rattle.tries.specs.Steps.{bytes_in, place_behind, tried_over}
use Rattle.tries.proofs.Walking.{over_low, over_one}
use Rattle.tries.proofs.Advancing.{bytes_code}
use Rattle.compares.specs.Compared.{builder}
use Rattle.record_lines.specs.Records.{line_of, lines}
use Rattle.record_lines.specs.Steps.{AllPass}
use Rattle.record_lines.proofs.Records.{bytes_here, Behind, behind}

-- ---- what each turn keeps

module _ (tape nodes : List ℕ) (numbers : ℕ → Option ℤ) (initial : ℕ) where
  abbrev reads : (ℕ → Option ℤ) → ℤ → ℕ → Value
  reads = reads_noted tape nodes

  abbrev all : List ℕ
  all = lines reads numbers (begin (origin initial)) (statements tape)

  pub record Going (text₀ text : List ℕ) (place end at : ℕ) : Type 0 where
    pub near : at ≤ length tape
    pub low : place ≤ 65536
    pub as_long : length text ≡ length text₀
    -- the tries are at this place, and come through
    pub names : ℕ
    pub page : Page
    pub last : Trying
    pub passes : tries reads builder numbers (trying (walk place names) page) (statements_at tape at) ≡ Fine last
    pub whole : laid text end (lines reads numbers (walk place names) (statements_at tape at)) ≡ laid text₀ 0 all

  pub going_start : initial ≤ 65536 → AllPass reads numbers (statements tape) (origin initial) → (text : List ℕ)
      → Going text text initial 0 0
  going_start h (u, fine) text = record {
    near = omega arith;
    low = h;
    as_long = refl;
    names = 0;
    page = (start (origin initial)).page;
    last = u;
    passes = fine;
    whole = refl;
  }

  module _ {text₀ text : List ℕ} {place end at : ℕ} (g : Going text₀ text place end at) where
    -- where no statement is left, all is put
    ended : statements_at tape at ≡ [] → (end, text) ≡ laid text₀ 0 all
    ended e = all_laid text end _ _ g.whole (ap (lines reads numbers (walk place g.names)) e)

    pub going_past : length tape ≤ at → (end, text) ≡ laid text₀ 0 all
    going_past h = ended (statements_past tape at h)

    -- r: the record there
    module _ {r : List ℕ} (is : r ≡ bytes_at tape at) {l : Bool} (l-is : l ≡ is_last r) where
      pub going_last : l ≡ true → (end, text) ≡ laid text₀ 0 all
      going_last t = ended (statements_last tape at (ap is_last (sym is) ∙ sym l-is ∙ t))

      pub inside : at + length r ≤ length tape
      inside = subst (λ (x : List ℕ). at + length x ≤ length tape) (sym is) (record_end tape at (length tape) g.near (omega arith))

      module _ (f : l ≡ false) where
        pub some_bytes : 0 < length r
        some_bytes = not_empty r (sym l-is ∙ f)

        abbrev now : Trying
        now = trying (walk place g.names) g.page

        -- the tries behind it
        next : (u : Trying) × (tried_over reads builder numbers now at r ≡ Fine u)
            × (tries reads builder numbers u (statements_at tape (at + length r)) ≡ Fine g.last)
        next =
            fine_then (tried_over reads builder numbers now at r) (λ u. tries reads builder numbers u (statements_at tape (at + length r)))
            g.last
            (ap (λ (x : List ℕ). and_then (tried_over reads builder numbers now at x)
            (λ u. tries reads builder numbers u (statements_at tape (at + length x)))) is
            ∙ sym (over_one reads builder numbers tape at now (ap is_last (sym is) ∙ sym l-is ∙ f))
            ∙ g.passes)

        -- v and k: what the code reads and the bytes that it has there
        module _ (v : Value) {z : ℤ} (z-is : z ≡ pos place) (v_is : v ≡ value_of tape nodes numbers z r (at + length r)) (k : Code)
            (k-is : k ≡ code (bytes_here place at r v)) where
          goes : Behind tape nodes numbers at r v now next.0
          goes =
              let there = v_is ∙ ap (λ (y : ℤ). value_of tape nodes numbers y r (at + length r)) z-is in
              behind tape nodes numbers at r v now is (sym l-is ∙ f) there builder next.1

          pub going_short : k.len ≤ 3
          going_short = omega (arith, ap (λ (x : Code). x.len) k-is, goes.short)

          pub going_on : (text' : List ℕ) {place' end' : ℕ} → (end', text') ≡ laid text end (line_of place (what_of r) (bytes_in k))
              → length text' ≡ length text → place' ≡ place_behind (get_or r 0 0) v place k.len
              → Going text₀ text' place' end' (at + length r)
          going_on text' {place'} {end'} put same moved =
              let u = next.0 in
              let rest = statements_at tape (at + length r) in
              let line = line_of place (what_of r) (bytes_here place at r v) in
              let is-line : line_of place (what_of r) (bytes_in k) ≡ line =
              ap (line_of place (what_of r)) (ap bytes_in k-is ∙ bytes_code (bytes_here place at r v) goes.short) in
              let there : place' ≡ u.walk.place =
              moved ∙ ap (λ (x : Code). place_behind (get_or r 0 0) v place x.len) k-is ∙ goes.place in
              record {
                near = inside;
                low = subst (λ (n : ℕ). n ≤ 65536) (sym there) (over_low reads builder numbers now at r u g.low next.1).0;
                as_long = same ∙ g.as_long;
                names = u.walk.names;
                page = u.page;
                last = g.last;
                passes = ap (λ (n : ℕ). tries reads builder numbers (trying (walk n u.walk.names) u.page) rest) there ∙ next.2;
                whole =
                    ap (λ (n : ℕ). laid text' end' (lines reads numbers (walk n u.walk.names) rest)) there
                    ∙ goes_on text end _ _ g.whole line (lines reads numbers u.walk rest) goes.shown text' end'
                    (put ∙ ap (laid text end) is-line);
              }
