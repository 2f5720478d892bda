-- The edges, then the notes. Assumes nothing.
use mathlib.Core.Path.{sym}
use native.Mathlib.Omega.{arith}
use Rattle.std.proofs.lemmas.Result.{err_from_is_err_and}
use Rattle.names.specs.Steps.{table_of}
use Rattle.names.proofs.Calls.{few_edges, leaves_fault, leaves_table}
use Rattle.names.proofs.declare_sound.Goals as goal

pub returns-in_err-edges : goal.returns-in_err-edges
returns-in_err-edges c =
    let out = err_from_is_err_and c.from_residual.result c.from_residual.ensures.1 in
    rw (out.1, out.2) (leaves_fault _ _ _ (sym c.in_err-edges.ensures))

pub resolve-requires : goal.resolve-requires
resolve-requires c = (c.requires, sym c.in_ok-edges.ensures)

pub overflow_add-result : goal.overflow_add-result
overflow_add-result c = omega (arith, few_edges _ _ _ (sym c.in_ok-edges.ensures))

pub returns : goal.returns
unfolding table_of
returns c = leaves_table _ _ _ _ (sym c.in_ok-edges.ensures) c.resolve.ensures
