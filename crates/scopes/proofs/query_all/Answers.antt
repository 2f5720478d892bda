-- The tests, and then the answers into a list of zeros. Assumes nothing.
use mathlib.Core.Path.{ap, ◌∙◌}
use Prim.Native.Nat.{ℕ}
use lib.ListN.{replicate}
use borrow.Author.Tests.{le-leb, lt-leb, eq-eqb, ne_eqb}
use Rattle.refusals.proofs.Pick.{granted, denied}
use Rattle.soundness.proofs.Nodes.{fails_first, fails_then, holds_both, node_held, ends_held}
use Rattle.scopes.proofs.Laws.{all_refused, all_done}
use Rattle.scopes.proofs.query_all.Goals as goal

pub returns-then-not-is_node : goal.returns-then-not-is_node
returns-then-not-is_node c =
    let no_Node = denied c.is_node.ensures c.if-not-is_node.true in
    all_refused _ _ _ _ _ _ (fails_first _ (fails_first _ no_Node))

pub returns-then-path-gt-LONGEST : goal.returns-then-path-gt-LONGEST
returns-then-path-gt-LONGEST c =
    let node = granted c.is_node.ensures c.if-not-is_node.false in
    all_refused _ _ _ _ _ _ (fails_first _ (fails_then node (lt-leb _ _ c.if-path-gt-LONGEST.true)))

pub returns-then-list-ne-NODES : goal.returns-then-list-ne-NODES
returns-then-list-ne-NODES c =
    let node = granted c.is_node.ensures c.if-not-is_node.false in
    let asks = holds_both node (le-leb _ _ c.if-path-gt-LONGEST.false) in
    all_refused _ _ _ _ _ _ (fails_then asks (ne_eqb _ _ c.if-list-ne-NODES.true))

pub ask_all-requires : goal.ask_all-requires
ask_all-requires c =
    let zeros = c.fill.ensures.after (λ y e. e) ∙ ap (λ (k : ℕ). replicate k 0) c.if-list-ne-NODES.false in
    (ends_held _ _ _ _ (granted c.is_node.ensures c.if-not-is_node.false), zeros)

pub returns : goal.returns
returns c =
    let a = c.args in
    let node = granted c.is_node.ensures c.if-not-is_node.false in
    let asks = holds_both node (le-leb _ _ c.if-path-gt-LONGEST.false) in
    let in_range_lem = holds_both asks (eq-eqb _ _ c.if-list-ne-NODES.false) in
    all_done _ _ _ _ _ a.list.now (node_held _ _ _ _ node) in_range_lem c.ask_all.ensures
