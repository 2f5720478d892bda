-- The names from a record on, and that there is room for them. Assumes nothing.
use mathlib.Core.Bool.{Bool, true, false, true≢false}
use mathlib.Core.List.{List}
use mathlib.Core.Path.{◌≡◌, refl, sym, ap, ◌∙◌}
use Prim.Native.Nat.{ℕ, ◌+◌, ◌<◌}
use native.Mathlib.Omega.{arith}
use lib.ListN.{length, get_or}
use Rattle.refusals.specs.Answer.{pick}
use Rattle.edges.specs.Edges.{max_nodes}
use Rattle.tape.specs.Record.{bytes_at}
use Rattle.form.specs.Form.{declares, is_numbered}
use Rattle.form.specs.Statements.{is_inner, is_last, statements_at}
use Rattle.form.proofs.Said.{numbered_declares}
use Rattle.form.proofs.Statements.{statements_inner, statements_one}
use Rattle.walk.specs.Values.{declarations}
use Rattle.walk.proofs.Records.{names_said, inner_none}

module _ (tape : List ℕ) (at : ℕ) where
  abbrev pub here : List ℕ
  here = bytes_at tape at

  abbrev pub next : ℕ
  next = at + length here

  -- the names from a record on are its own, if it declares one, and those behind it
  pub names_on : is_last here ≡ false
      → declarations (statements_at tape at) ≡ pick (declares (get_or here 0 0)) 1 0 + declarations (statements_at tape next)
  names_on more = go (is_inner here) refl
    where
      go : (i : Bool) → is_inner here ≡ i
          → declarations (statements_at tape at) ≡ pick (declares (get_or here 0 0)) 1 0 + declarations (statements_at tape next)
      go true i = ap declarations (statements_inner tape at more i) ∙ rw (inner_none here i) (omega arith)
      go false i =
          ap declarations (statements_one tape at more i)
          ∙ ap (λ (n : ℕ). n + declarations (statements_at tape next)) (omega (arith, names_said here (get_or here 0 0) refl 0))

-- where those from here on have room among 1,024 nodes, one that has a number has room
pub numbered_free : (k names rest : ℕ) {all : ℕ} → all ≡ pick (declares k) 1 0 + rest → names + all < max_nodes → is_numbered k ≡ true
    → names + 1 < max_nodes
numbered_free k names rest {all} is room e = go (declares k) (numbered_declares k) is
  where
    go : (d : Bool) → (d ≡ false → is_numbered k ≡ false) → all ≡ pick d 1 0 + rest → names + 1 < max_nodes
    go true h a = omega (arith, room, a)
    go false h a = absurd (true≢false (sym e ∙ h refl))
