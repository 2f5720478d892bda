-- Each call allows one digit less: that is the bound. Assumes nothing.
use Rattle.numerals.proofs.+put_numeral.Given as goal

abbrev pub decreases-put_numeral : goal.decreases-put_numeral
decreases-put_numeral l = l.most
