-- Pushes that change nothing. Assumes nothing.
use Rattle.std.proofs.Common.{◌≡◌, ℕ, suc, zero, ◌+◌, ◌<◌, ◌≤◌, List, [], ◌∷◌, length, sym, ap, subst, ◌∙◌, arith}
use Rattle.std.proofs.lemmas.Grind.{common_steps}
use Rattle.replay.specs.Room.{joined, joined_often}

-- one of nothing
pub nothing_joined : {A : Type 0} (n : ℕ) (items more : List A) → length more ≡ 0 → joined n items more ≡ items
nothing_joined n items [] h = grind (arith, common_steps)
nothing_joined n items (x ∷ xs) h = grind (arith, common_steps)

-- one that has no room
pub no_room_joined : {A : Type 0} (n : ℕ) (items more : List A) → n < length items + length more → joined n items more ≡ items
no_room_joined n items more h = grind (arith, common_steps)

-- where one more changes nothing, any number more does not
pub still : {A : Type 0} (n k m : ℕ) (items more start : List A) → joined n items more ≡ items
    → items ≡ joined_often n k more start → k ≤ m → items ≡ joined_often n m more start
still n k zero items more start same so_far h = grind arith
still n k (suc m) items more start same so_far h =
    let at_last : k ≡ suc m → items ≡ joined_often n (suc m) more start
    = λ e. subst (λ x. items ≡ joined_often n x more start) e so_far in
    let once_more : items ≡ joined_often n m more start → items ≡ joined_often n (suc m) more start
    = λ e. sym same ∙ ap (λ l. joined n l more) e in
    grind (arith, at_last, once_more, still n k m items more start same so_far)
