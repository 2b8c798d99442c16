use Rattle.std.proofs.Common.{◌∙◌, sym}
use Rattle.xs_tree.specs.Record.{at}
use Rattle.xs_making.specs.Putting.{Puts}
use Rattle.xs_making.proofs.SpaceLemmas.{space_put}
use Rattle.xs_making.proofs.leaves.put_space.Goals as goal

pub returns-clause-reported : goal.returns-clause-reported
returns-clause-reported g c =
    space_put (λ es. Puts c.args.site es (g.R.Tally.state c.args.recorder.now) c.put_one.result (g.R.Tally.state c.put_one.new.recorder))
    (at c.args.tree.now c.args.n) c.text-uri.result.now c.local.result.now c.in_ok-space.space c.text-uri.ensures.text c.local.ensures.local
    (sym c.is_empty.ensures ∙ c.if-is_empty.false) (sym c.eq.ensures ∙ c.if-eq.false) c.in_ok-space.ensures c.put_one.ensures.reported
