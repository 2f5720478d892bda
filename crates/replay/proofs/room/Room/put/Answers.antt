-- `replay::room::Room::put` meets its contract. Assumes nothing.
use Rattle.std.proofs.Math.Seq.{take-set-lt}
use Rattle.replay.proofs.room.Room.put.Goals as goal

pub returns-then-at-self : goal.returns-then-at-self
returns-then-at-self g c =
    rw (← c.self.view_is) (take-set-lt c.self.inside.len c.self.inside.items c.args.at c.args.item c.if-at-self.true)
