-- Each public call allows one answer, and one memory at exit: the law of `refusals`, applied to each call's own contract. Assumes nothing.
use Rattle.std.specs.Prelude.{Result}
use mathlib.Core.List.{List}
use Prim.Native.Nat.{ℕ}
use Rattle.refusals.specs.Says.{says}
use Rattle.refusals.specs.declared.Refusal.{Refusal}
use Rattle.refusals.proofs.Unique.{One, OneResult, same, told_apart, and_also}
use Rattle.refusals.proofs.One.{back, back_says}
use Rattle.source_map.proofs.clear.Reads as clear
use Rattle.source_map.proofs.len.Reads as len
use Rattle.source_map.proofs.entry_at.Reads as entry_at
use Rattle.source_map.proofs.add.Reads as add
use Rattle.source_map.proofs.address_to_offset.Reads as address-to-offset
use Rattle.source_map.proofs.move_offsets.Reads as move-offsets

-- ---- the calls; of those that change the map, the result and the memory at exit

pub clear_one : One {S = λ k. Result (Unit {0}) Refusal × List ℕ} (λ k x e. (x, e.0.now)) clear.Post
clear_one k a x y e f p q = and_also (told_apart says back back_says p.0 q.0) (same p.1 q.1)

pub len_one : OneResult len.Post
len_one k a x y e f p q = told_apart says back back_says p q

pub entry_at_one : OneResult entry_at.Post
entry_at_one k a x y e f p q = told_apart says back back_says p q

pub add-one : One {S = λ k. Result (Unit {0}) Refusal × List ℕ} (λ k x e. (x, e.0.now)) add.Post
add-one k a x y e f p q = and_also (told_apart says back back_says p.0 q.0) (same p.1 q.1)

pub address_to_offset_one : OneResult address-to-offset.Post
address_to_offset_one k a x y e f p q = told_apart says back back_says p q

pub move_offsets_one : One {S = λ k. Result (Unit {0}) Refusal × List ℕ} (λ k x e. (x, e.0.now)) move-offsets.Post
move_offsets_one k a x y e f p q = and_also (told_apart says back back_says p.0 q.0) (same p.1 q.1)
