-- What the search leaves. Assumes nothing.
use mathlib.Core.Bool.{Bool, false}
use mathlib.Core.List.{List}
use mathlib.Core.Path.{◌≡◌, sym, ap, ◌∙◌}
use Prim.Native.Nat.{ℕ, suc, ◌+◌, ◌-◌, ◌<◌}
use native.Mathlib.Omega.{arith}
use Rattle.refusals.proofs.Pick.{at_false}
use Rattle.script.specs.Words.{word_of}
use Rattle.script.specs.Commands.{is_command, command_from}
use Rattle.script.proofs.command.Goals as goal

-- a name that is not the command's is passed over
passed_over : (line names : List ℕ) (i count : ℕ) → i < count → {l : List ℕ} {r : Bool} → l ≡ word_of i names → r ≡ is_command line l
    → r ≡ false → command_from line names (i + 1) (count - (i + 1)) ≡ command_from line names i (count - i)
passed_over line names i count h is e b =
    let more : count - i ≡ suc (count - (i + 1)) = omega arith in
    at_false i _ (ap (is_command line) (sym is) ∙ sym e ∙ b) ∙ sym (ap (command_from line names i) more)

pub loop-i-preserved : goal.loop-i-preserved
loop-i-preserved c =
    let so_far = c.loop-i in
    passed_over c.args.line.now c.args.names.now so_far.i _ c.loop-i-test.true c.word.ensures c.is_command.ensures c.if-is_command.false
    ∙ so_far.invariant
