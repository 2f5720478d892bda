-- The tests in their order. Assumes nothing.
use mathlib.Core.Path.{sym, ◌∙◌}
use Rattle.refusals.proofs.Pick.{granted, denied}
use Rattle.growth.proofs.Laws.{export_loop, export_taken, export_full, export_done}
use Rattle.growth.proofs.export_from.Goals as goal

pub returns-then-on_chain : goal.returns-then-on_chain
returns-then-on_chain c = export_loop _ _ _ _ _ _ _ _ (sym c.on_chain.ensures ∙ c.if-on_chain.true)

pub returns-then-is_taken : goal.returns-then-is_taken
returns-then-is_taken c =
    let off = sym c.on_chain.ensures ∙ c.if-on_chain.false in
    export_taken _ _ _ _ _ _ _ _ off (sym c.is_taken.ensures ∙ c.if-is_taken.true)

pub returns-then-not-has_room : goal.returns-then-not-has_room
returns-then-not-has_room c =
    let off = sym c.on_chain.ensures ∙ c.if-on_chain.false in
    let free = sym c.is_taken.ensures ∙ c.if-is_taken.false in
    export_full _ _ _ _ _ _ _ _ off free (denied c.has_room.ensures c.if-not-has_room.true)

pub returns : goal.returns
returns c =
    let off = sym c.on_chain.ensures ∙ c.if-on_chain.false in
    let free = sym c.is_taken.ensures ∙ c.if-is_taken.false in
    export_done _ _ _ _ _ _ _ _ off free (granted c.has_room.ensures c.if-not-has_room.false)
