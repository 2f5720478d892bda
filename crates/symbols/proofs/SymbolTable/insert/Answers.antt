-- The test, and then the change. Assumes nothing.
use Rattle.std.proofs.Common.{ap, ◌∙◌, arith}
use Rattle.std.proofs.lemmas.Result.{err_from_is_err_and}
use Rattle.refusals.specs.Answer.{Done}
use Rattle.symbols.specs.declared.SymbolTable.{SymbolTable}
use Rattle.symbols.specs.Symbols.{left_node}
use Rattle.symbols.proofs.Calls.{insert_refused, insert_done, insert_room}
use Rattle.symbols.proofs.SymbolTable.insert.Goals as goal

pub overflow_cast-node : goal.overflow_cast-node
overflow_cast-node c =
    let a = c.args in
    let free = insert_room a.self a.parent a.id a.value c.in_ok-may_insert.ensures in
    omega (arith, free.0)

pub with_child-table-requires : goal.with_child-table-requires
with_child-table-requires c =
    let a = c.args in
    let free = insert_room a.self a.parent a.id a.value c.in_ok-may_insert.ensures in
    (omega (arith, free.0), omega (arith, free.1))

pub returns-in_err-may_insert : goal.returns-in_err-may_insert
returns-in_err-may_insert c =
    let a = c.args in
    let p = err_from_is_err_and c.from_residual.result c.from_residual.ensures.1 in
    rw (p.1, p.2) (ap (left_node a.self) (insert_refused a.self a.parent a.id a.value c.in_err-may_insert.ensures))

pub returns : goal.returns
returns c =
    let a = c.args in
    ap (λ (t : SymbolTable). (t, Done a.self.nodes)) c.with_child-table.ensures
    ∙ ap (left_node a.self) (insert_done a.self a.parent a.id a.value c.in_ok-may_insert.ensures)
