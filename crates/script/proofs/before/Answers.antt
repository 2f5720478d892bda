-- There is no mark, or it stands here. Assumes nothing.
use Rattle.script.proofs.Scans.{all_until, until_mark}
use Rattle.script.proofs.before.Goals as goal

pub returns-in-None : goal.returns-in-None
returns-in-None c = all_until c.args.mark c.args.text.now c.in-None.ensures

pub returns-in-Some : goal.returns-in-Some
returns-in-Some c = until_mark c.args.mark c.args.text.now c.in-Some.ensures
