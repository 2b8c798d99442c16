use Rattle.std.proofs.Common.{◌∙◌, sym}
use Rattle.xs_structure.proofs.StandingLemmas.{seen_alone, seen_in}
use Rattle.xs_structure.proofs.standing.is_seen.Goals as goal

pub returns-in-Some : goal.returns-in-Some
returns-in-Some c =
    c.is_seen_in.ensures
    ∙ seen_in c.args.tree.now c.len-count.ensures.tree c.args.n c.in-Some.parent c.requires.inside (sym c.in-Some.is ∙ c.requires.parent)
    c.args.tag c.requires.tag

pub returns-in-None : goal.returns-in-None
returns-in-None c = seen_alone c.args.tree.now c.args.n (sym c.in-None.is ∙ c.requires.parent)
