use Rattle.xs_profile.proofs.SearchLemmas.{at-place, behind-place}
use Rattle.xs_profile.proofs.search.pass_run.Goals as goal

pub returns-then-left-run : goal.returns-then-left-run
returns-then-left-run c = at-place c.args.left c.args.run.ticks c.args.run.site c.requires.some c.if-left-run.true

pub returns : goal.returns
returns c = behind-place c.args.left c.args.run.ticks c.args.run.site c.if-left-run.false
