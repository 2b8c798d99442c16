use Rattle.xs_profile.proofs.SiteLemmas.{content-sites}
use Rattle.xs_profile.specs.steps.Runs.{run_sites}
use Rattle.xs_profile.proofs.runs.runs_of.Goals as goal

pub returns : goal.returns
returns c =
    content-sites c.content-content.result (run_sites c.run_of.result) c.args.segment.now c.content-content.ensures.items c.run_of.ensures
