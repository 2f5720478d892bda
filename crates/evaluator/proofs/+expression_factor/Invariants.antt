-- An expression of so many records of depth asks a factor of as many, and either asks an expression of one less. Assumes nothing.
use Rattle.std.proofs.Common.{◌+◌}
use Rattle.evaluator.proofs.+expression_factor.Given as goal

abbrev pub decreases-expression : goal.decreases-expression
decreases-expression l = l.depth + l.depth + 1

abbrev pub decreases-factor : goal.decreases-factor
decreases-factor l = l.depth + l.depth
