-- The numbers stand in arrays. Assumes nothing.
use mathlib.Core.Path.{◌∙◌}
use Rattle.number_list.proofs.Kept.{spread_told}
use Rattle.checker.proofs.Checks.{numbers_judged}
use Rattle.checker.proofs.check_numbers.Goals as goal

pub returns : goal.returns
returns c =
    let args = c.args in
    let told = spread_told args.tape.now args.numbers.now c.spread-spread.ensures c.requires.2 in
    c.judge.ensures
    ∙ numbers_judged args.tape.now args.nodes.now args.initial args.numbers.now args.start args.bytes.now c.requires
    told c.if-spread-numbers.false
