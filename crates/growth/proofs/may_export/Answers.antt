-- The tests of the arguments, and then those from the deepest node that is there. Assumes nothing.
use mathlib.Core.Path.{◌∙◌}
use native.Mathlib.Omega.{arith}
use Rattle.refusals.proofs.Pick.{granted}
use Rattle.soundness.proofs.Nodes.{holds_both, node_has, also_node, node_held}
use Rattle.growth.proofs.Laws.{name, path_few, front_few, depth_few, deepest_ends, export_on}
use Rattle.growth.proofs.may_export.Goals as goal

pub overflow_sub-missing : goal.overflow_sub-missing
overflow_sub-missing c =
    let path = c.args.path.now in
    front_few path (depth_few _ _ _ c.deepest-there.ensures)

pub export_from-requires : goal.export_from-requires
export_from-requires c =
    let path = c.args.path.now in
    let scope = granted c.is_node.ensures c.if-not-is_node.false in
    let node = node_has _ _ _ _ scope in
    let few = path_few path (granted c.is_new_path.ensures c.if-not-is_new_path.false) in
    (node.few_nodes, node.few_edges, omega (arith, few), deepest_ends _ _ _ _ _ scope c.deepest-there.ensures)

pub returns : goal.returns
returns c =
    let scope = granted c.is_node.ensures c.if-not-is_node.false in
    let nodes = holds_both scope (also_node _ _ _ _ scope _ c.wide.ensures c.if-nodes-wide.false) in
    let ids = holds_both nodes (granted c.is_new_path.ensures c.if-not-is_new_path.false) in
    let in_range_lem = holds_both ids (name _ c.if-path-eq0.false) in
    let path = c.args.path.now in
    c.export_from.ensures ∙ export_on _ _ _ _ _ path c.deepest-there.ensures (node_held _ _ _ _ scope) in_range_lem
