-- The digits of the quotient, then the remainder's. Assumes nothing.
use Rattle.numerals.proofs.Digits.{digit_behind}
use Rattle.numerals.proofs.+put_numeral.Goals as goal

pub returns : goal.returns
returns t c =
    let a = c.args in
    digit_behind _ _ a.base a.most a.least a.n c.if-most-eq0.false c.is_digit.ensures c.if-is_digit.false
    c.saturating_sub.ensures c.put_numeral-end.ensures c.put_digit-2.ensures
