-- `int64::div` meets its contract: by zero; else the quotient of the sizes, with the sign that the two signs give. Assumes nothing.
use Rattle.int64.proofs.Laws.{quotient}
use Rattle.std.proofs.Common.{nat_abs, sym, ap, ◌∙◌, to_z-of_z, eq-eqb, ne_eqb}
use Rattle.int64.specs.Num.{fit}
use Rattle.int64.proofs.div.Goals as goal

pub returns-then-y-eq0 : goal.returns-then-y-eq0
returns-then-y-eq0 c =
    let zero = ap nat_abs (sym (to_z-of_z c.ranges.b)) ∙ sym c.size-y.ensures ∙ c.if-y-eq0.true in
    simp (eq-eqb (nat_abs c.args.b) 0 zero)

pub returns : goal.returns
returns c =
    let b = c.size-y.ensures in
    simp (ne_eqb (nat_abs c.args.b) 0 (λ e. c.if-y-eq0.false (b ∙ ap nat_abs (to_z-of_z c.ranges.b) ∙ e)))
    (c.join.ensures
    ∙ ap fit
    (quotient c.ranges.a c.ranges.b c.negative.ensures c.negative-2.ensures c.size.ensures b))
