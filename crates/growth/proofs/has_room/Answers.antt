-- What fits behind so many fits in all. Assumes nothing.
use Rattle.std.proofs.Common.{◌∙◌, arith}
use Rattle.std.proofs.lemmas.Bool.{lt-leb}
use Rattle.growth.proofs.Laws.{room_nodes, room_edges, fits_behind}
use Rattle.growth.proofs.has_room.Goals as goal

pub returns-then-i-nodes : goal.returns-then-i-nodes
returns-then-i-nodes c = fits_behind _ _ c.requires.1 ∙ room_edges _ _ (omega (arith, c.if-i-nodes.true))

pub returns-else-i-nodes : goal.returns-else-i-nodes
returns-else-i-nodes c = lt-leb _ _ c.if-i-nodes.false ∙ room_nodes _ _ (omega (arith, c.if-i-nodes.false))
