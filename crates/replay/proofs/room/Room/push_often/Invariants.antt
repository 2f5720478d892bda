-- `replay::room::Room::push_often` meets its contract. Invariant: so far, so often. Assumes nothing.
use Rattle.std.proofs.Common.{◌≡◌}
use Rattle.replay.specs.Room.{joined_often}
use Rattle.replay.proofs.room.Room.push_often.Given as goal

abbrev pub invariant-loop-i : goal.invariant-loop-i
invariant-loop-i g l = l.self ≡ joined_often {A = g.row.T.Denot} g.row.N l.i l.more l.initial.self
