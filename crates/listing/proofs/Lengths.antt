-- A listing has room in the text that is lent: twenty bytes for each byte of the tape, and twenty for the last line. Assumes nothing.
use Rattle.std.specs.Prelude.{Option}
use mathlib.Core.Bool.{Bool, true, false, ◌&&◌}
use mathlib.Core.List.{List, [], ◌∷◌, ◌++◌}
use mathlib.Core.Path.{◌≡◌, refl}
use Prim.Native.Nat.{ℕ, zero, suc, ◌+◌, ◌-◌, ◌≤◌}
use native.Mathlib.Omega.{arith}
use lib.Dec.{leb}
use lib.IntN.{ℤ}
use lib.ListN.{length, length-append}
use borrow.Author.Tests.{leb-true}
use Rattle.refusals.specs.Answer.{pick}
use Rattle.refusals.specs.AnswerAt.{AnswerAt, Fine, Fault, mapped, and_then}
use Rattle.refusals.specs.Table.{argument}
use Rattle.lines.specs.Text.{last_line}
use Rattle.lines.proofs.Lengths.{last_length, refused_length}
use Rattle.pen.specs.Pens.{size}
use Rattle.symbols.specs.declared.SymbolTable.{SymbolTable}
use Rattle.tape.specs.Record.{bytes_at}
use Rattle.form.specs.Form.{max_tape}
use Rattle.form.specs.Statements.{is_last, is_inner, Statement, statement_of, statements_from, statements_at, statements}
use Rattle.evaluator.specs.Expression.{Value}
use Rattle.names.specs.Names.{names_of}
use Rattle.walk.specs.Walk.{Origin, origin, begin}
use Rattle.walk.specs.Values.{Values, numbered}
use Rattle.passes.specs.Passes.{settled}
use Rattle.reads.specs.Reads.{reads_on}
use Rattle.builds.specs.Build.{Build, tried_with}
use Rattle.record_lines.specs.Records.{lines, said}
use Rattle.record_lines.proofs.Lengths.{lines_short}
use Rattle.listing.specs.Listing.{listed_with, listed_by, listed}
use Rattle.listing.specs.Call.{listing, text_places}

-- ---- a statement for each record, a record for each byte

records_few : (n : ℕ) (tape : List ℕ) (at : ℕ) → length (statements_from n tape at) ≤ n
unfolding statements_from
records_few zero tape at = omega arith
records_few (suc n) tape at =
    let r = bytes_at tape at in
    go (is_last r) (is_inner r) (statement_of at r) _ (records_few n tape (at + length r))
  where
    go : (a b : Bool) (x : Statement) (xs : List Statement) → length xs ≤ n → length (pick a [] (pick b xs (x ∷ xs))) ≤ suc n
    go true b x xs h = omega arith
    go false true x xs h = omega arith
    go false false x xs h = omega arith

statements_few : (tape : List ℕ) → length (statements tape) ≤ length tape
unfolding statements_at
statements_few tape = omega (arith, records_few (length tape - 0) tape 0)

-- ---- a listing

module _ (tape : List ℕ) where
  module _ (o : Origin) (fits : length tape ≤ max_tape) where
    finished_short : (reads : (ℕ → Option ℤ) → ℤ → ℕ → Value) (n : ℕ) (L : Values)
        → length (said (listed_with reads (statements tape) o (n, L))) ≤ text_places
    finished_short reads n L = go (tried_with reads (statements tape) o (n, L))
      where
        ls : List ℕ
        ls = lines reads (numbered L) (begin o) (statements tape)

        go : (a : AnswerAt Build) → length (said (mapped (λ b. ls ++ last_line b.start b.end b.passes) a)) ≤ text_places
        go (Fine b) =
            omega (
              arith,
              length-append ls (last_line b.start b.end b.passes),
              last_length b.start b.end b.passes,
              lines_short reads (numbered L) (begin o) (statements tape),
              statements_few tape,
              fits,
            )
        go (Fault m i) = omega (arith, refused_length m i)

    settled_short : (reads : (ℕ → Option ℤ) → ℤ → ℕ → Value) (a : AnswerAt (ℕ × Values))
        → length (said (and_then a (listed_with reads (statements tape) o))) ≤ text_places
    settled_short reads (Fine (n, L)) = finished_short reads n L
    settled_short reads (Fault m i) = omega (arith, refused_length m i)

    named_short : (a : AnswerAt SymbolTable)
        → length (said (and_then a (λ t. listed_by (reads_on tape t) (statements tape) o))) ≤ text_places
    unfolding listed_by
    named_short (Fine t) = settled_short (reads_on tape t) (settled (reads_on tape t) (statements tape) o)
    named_short (Fault m i) = omega (arith, refused_length m i)

    listed_short : length (said (listed tape o)) ≤ text_places
    unfolding listed
    listed_short = named_short (names_of tape)

  pub listing_short : (initial : ℕ) → length (listing tape initial) ≤ text_places
  unfolding listing
  listing_short initial = go (leb (length tape) max_tape) refl (leb initial size)
    where
      go : (a : Bool) → leb (length tape) max_tape ≡ a → (b : Bool)
          → length (said (pick (a && b) (listed tape (origin initial)) (Fault argument 0))) ≤ text_places
      go true e true = listed_short (origin initial) (leb-true (length tape) max_tape e)
      go true e false = omega (arith, refused_length argument 0)
      go false e b = omega (arith, refused_length argument 0)
