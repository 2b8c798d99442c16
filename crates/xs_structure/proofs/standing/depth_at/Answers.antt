use Rattle.std.proofs.Common.{◌∙◌, sym, arith}
use Rattle.xs_structure.proofs.StandingLemmas.{depth-alone, depth-fits, depth-in}
use Rattle.xs_structure.proofs.standing.depth_at.Goals as goal

pub overflow_add-result : goal.overflow_add-result
overflow_add-result c =
    omega (
      arith,
      depth-fits c.args.tree.now c.len-count.ensures.tree c.args.n c.in-Some.parent c.requires.inside (sym c.in-Some.is ∙ c.requires.parent)
          (omega (arith, c.len-count.ensures.count, c.len-count.ensures.few)),
    )

pub returns-in-Some : goal.returns-in-Some
returns-in-Some c =
    depth-in c.args.tree.now c.len-count.ensures.tree c.args.n c.in-Some.parent c.requires.inside (sym c.in-Some.is ∙ c.requires.parent)

pub returns-in-None : goal.returns-in-None
returns-in-None c = depth-alone c.args.tree.now c.args.n (sym c.in-None.is ∙ c.requires.parent)
