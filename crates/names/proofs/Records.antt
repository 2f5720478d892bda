-- What the private functions make of one record, each by its cases. Assumes nothing.
use Rattle.std.specs.Prelude.{Option, is_some}
use mathlib.Core.Bool.{Bool, true}
use mathlib.Core.List.{List}
use mathlib.Core.Path.{◌≡◌, ap, ◌∙◌}
use Prim.Native.Nat.{ℕ, ◌+◌, ◌*◌, ◌≤◌}
use lib.ListN.{length, get_or, set}
use Rattle.little.specs.Little.{number_at}
use Rattle.edges.proofs.Laws as laws
use Rattle.edges.specs.Edges.{max_edges, child_of, held}
use Rattle.edges.specs.declared.Edge.{Edge}
use Rattle.form.specs.Form.{declares}
use Rattle.names.specs.declared.Walk.{Walk}
use Rattle.names.specs.Steps.{taken_in, edges_after}

-- ---- whether its id is taken

-- by n edges: it is where the look_up among them reaches a node
module _ (links : List ℕ) (n s x : ℕ) (few : n ≤ max_edges) where
  pub look_up : (r : Option ℕ) → r ≡ child_of (held links n) s x → is_some r ≡ taken_in links n s x
  unfolding taken_in
  look_up r told = ap is_some told ∙ ap (λ (es : List Edge). is_some (child_of es s x)) (laws.all_held links n few)

-- ---- its edge

module _ (links : List ℕ) (w : Walk) (r : List ℕ) {k : ℕ} (is : k ≡ get_or r 0 0) {t : Bool} (told : t ≡ declares k) (e : t ≡ true)
    {id : ℕ} (named : id ≡ number_at 2 r 1) where
  pub put_edge : 3 * w.names + 3 ≤ length links → let at = 3 * w.names in
      set (set (set links at w.scope) (at + 1) id) (at + 2) (w.names + 1) ≡ edges_after links w r
  unfolding edges_after
  put_edge room = laws.three_stores links (3 * w.names) room w.scope id (w.names + 1) ∙ rw (← is, ← told, e, named)
