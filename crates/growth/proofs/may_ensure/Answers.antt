-- The tests in their order; what is missing of the path needs room. Assumes nothing.
use mathlib.Core.Path.{ap, ◌∙◌}
use Rattle.refusals.specs.Answer.{Done}
use Rattle.refusals.proofs.Pick.{granted, denied}
use Rattle.soundness.proofs.Nodes.{holds_both, node_has}
use Rattle.growth.proofs.Laws.{depth_few, so_many, there_held, ensure_full, ensure_done}
use Rattle.growth.proofs.may_ensure.Goals as goal

pub overflow_sub-missing : goal.overflow_sub-missing
overflow_sub-missing c = depth_few _ _ _ c.deepest-there.ensures

pub has_room-requires : goal.has_room-requires
has_room-requires c =
    let node = node_has _ _ _ _ (granted c.is_node.ensures c.if-not-is_node.false) in
    (node.few_nodes, node.few_edges)

pub returns-then-not-has_room : goal.returns-then-not-has_room
returns-then-not-has_room c =
    let node = granted c.is_node.ensures c.if-not-is_node.false in
    let in_range_lem = holds_both node (granted c.is_new_path.ensures c.if-not-is_new_path.false) in
    let is = there_held _ _ _ _ _ node c.deepest-there.ensures in
    ensure_full _ _ _ _ _ _ in_range_lem (so_many _ _ _ is) (denied c.has_room.ensures c.if-not-has_room.true)

pub returns : goal.returns
returns c =
    let node = granted c.is_node.ensures c.if-not-is_node.false in
    let in_range_lem = holds_both node (granted c.is_new_path.ensures c.if-not-is_new_path.false) in
    let is = there_held _ _ _ _ _ node c.deepest-there.ensures in
    ap Done is ∙ ensure_done _ _ _ _ _ _ in_range_lem (so_many _ _ _ is) (granted c.has_room.ensures c.if-not-has_room.false)
