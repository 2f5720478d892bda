-- The line of a record: what it is called, and that one without bytes has none. Assumes nothing.
use Prim.Native.String.{String}
use mathlib.Core.List.{List, [], ◌∷◌}
use mathlib.Core.Path.{◌≡◌, refl, sym, ap, ◌∙◌}
use Prim.Native.Nat.{ℕ, zero, suc}
use native.Mathlib.Omega.{arith}
use lib.ListN.{get_or, take}
use Rattle.opcodes.specs.declared.Code.{Code}
use Rattle.tape.specs.Kinds.{instruction}
use Rattle.page.specs.Page.{laid}
use Rattle.page.proofs.Laying.{nothing_laid}
use Rattle.mnemonics.specs.Mnemonics.{dashes, name_of}
use Rattle.mnemonics.proofs.Letters.{no_name}
use Rattle.lines.specs.Text.{line}
use Rattle.form.specs.Statements.{What, what_of}
use Rattle.form.proofs.Said.{what_by, by_kind, said}
use Rattle.tries.specs.Steps.{bytes_in}
use Rattle.record_lines.specs.Records.{mnemonic_of, line_of}

-- ---- what it is called

module _ (r : List ℕ) (k : ℕ) (is : k ≡ get_or r 0 0) where
  -- an instruction, whose mnemonic has number m
  pub called : k ≡ instruction → {m : ℕ} → m ≡ get_or r 1 0 → name_of m ≡ mnemonic_of (what_of r)
  called e number = ap name_of number ∙ ap mnemonic_of (sym (said r k is ∙ ap (what_by r) e))

  -- any other kind
  pub uncalled : (k ≡ instruction → ⊥) → name_of 56 ≡ mnemonic_of (what_of r)
  uncalled other =
      no_name 56 (omega arith)
      ∙ by_kind r P (λ n. absurd (n refl)) no no no no no no no (λ j d. no) k other
      ∙ ap mnemonic_of (sym (said r k is))
    where
      P : ℕ → What → Type 0
      P j x = (j ≡ instruction → ⊥) → dashes ≡ mnemonic_of x

      no : {A : Type 0} → A → dashes ≡ dashes
      no a = refl

-- ---- its line

module _ (text : List ℕ) (at place : ℕ) (x : What) (c : Code) where
  -- a record that writes nothing has none
  pub no_line : c.len ≡ 0 → (at, text) ≡ laid text at (line_of place x (bytes_in c))
  no_line e =
      nothing_laid text at
      ∙ ap (λ (n : ℕ). laid text at (line_of place x (take n (c.b0 ∷ c.b1 ∷ c.b2 ∷ [])))) (sym e)

  -- another has its line
  pub line_put : (c.len ≡ 0 → ⊥) → {bytes : List ℕ} → bytes ≡ bytes_in c → {name : String} → name ≡ mnemonic_of x → {z : ℕ × List ℕ}
      → z ≡ laid text at (line place bytes name) → z ≡ laid text at (line_of place x (bytes_in c))
  line_put some own named put =
      put
      ∙ (λ i. laid text at (line place (own i) (named i)))
      ∙ ap (laid text at) (written c.b0 (c.b1 ∷ c.b2 ∷ []) c.len some)
    where
      written : (b : ℕ) (bs : List ℕ) (n : ℕ) → (n ≡ 0 → ⊥) → line place (take n (b ∷ bs)) (mnemonic_of x) ≡ line_of place x (take n (b ∷ bs))
      written b bs zero some = absurd (some refl)
      written b bs (suc n) some = refl
