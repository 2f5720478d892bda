-- What asks for room needs the counts of a sound table, which are no greater than fit. Assumes nothing.
use Rattle.refusals.proofs.Pick.{granted}
use Rattle.soundness.proofs.Nodes.{node_has}
use Rattle.growth.proofs.may_insert.Goals as goal

pub has_room-requires : goal.has_room-requires
has_room-requires c =
    let node = node_has _ _ _ _ (granted c.is_node.ensures c.if-not-is_node.false) in
    (node.few_nodes, node.few_edges)
