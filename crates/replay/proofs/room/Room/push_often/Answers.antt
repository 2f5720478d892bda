-- `replay::room::Room::push_often` meets its contract: where a push changes nothing, no further one does. Assumes nothing.
use Rattle.std.proofs.Common.{◌≡◌, ◌<◌, ◌+◌, length, arith}
use Rattle.std.proofs.lemmas.Grind.{common_steps}
use Rattle.std.proofs.lemmas.List.{length-take}
use Rattle.replay.proofs.Pushing.{still, nothing_joined, no_room_joined}
use Rattle.replay.proofs.room.Room.push_often.Goals as goal
use Rattle.replay.proofs.room.Room.push_often.Goals.{then-is_empty-via-then-is_empty, then-is_empty-via-else-is_empty+then-self-more}

pub returns-then-is_empty : goal.returns-then-is_empty
returns-then-is_empty g c = elim c.then-is_empty.branch [
  | then-is_empty-via-then-is_empty w ↦
      let none : length c.args.more.now ≡ 0 = grind (arith, common_steps, w.if-is_empty.true, c.is_empty.ensures) in
      still _ c.loop-i.i c.args.times _ _ _ (nothing_joined _ _ _ none) c.loop-i.invariant (omega arith)
  | then-is_empty-via-else-is_empty+then-self-more w ↦
      let full : g.row.N < length c.loop-i.self + length c.args.more.now =
      rw (← c.self.view_is) (simp length-take (omega (arith, c.self.told, c.self.invariant, w.if-self-more.true))) in
      still _ c.loop-i.i c.args.times _ _ _ (no_room_joined _ _ _ full) c.loop-i.invariant (omega arith)
]
