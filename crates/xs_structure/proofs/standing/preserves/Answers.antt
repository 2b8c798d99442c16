use Rattle.std.proofs.Common.{◌∙◌, sym, ap, Option, Bool}
use Rattle.std.specs.Option.{unwrap_or}
use Rattle.xs_structure.proofs.AttributeLemmas.{says-nothing}
use Rattle.xs_structure.proofs.StandingLemmas.{preserves_in}
use Rattle.xs_structure.proofs.standing.preserves.Goals as goal

pub returns-then-not-is_element : goal.returns-then-not-is_element
returns-then-not-is_element c =
    says-nothing c.args.tree.now c.len-count.ensures.tree c.args.n (sym c.is_element.ensures ∙ c.if-not-is_element.true)
    c.is_preserved_around-around.result
    ∙ preserves_in c.args.tree.now c.len-count.ensures.tree c.args.n c.requires.inside c.args.parent c.is_preserved_around-around.result
    c.requires.parent c.is_preserved_around-around.ensures

pub returns-in-Some : goal.returns-in-Some
returns-in-Some c =
    let around = c.is_preserved_around-around.result in
    ap (λ (o : Option Bool). unwrap_or o around) (sym c.in-Some.is ∙ c.own_space.ensures)
    ∙ preserves_in c.args.tree.now c.len-count.ensures.tree c.args.n c.requires.inside c.args.parent around c.requires.parent
    c.is_preserved_around-around.ensures

pub returns-in-None : goal.returns-in-None
returns-in-None c =
    let around = c.is_preserved_around-around.result in
    ap (λ (o : Option Bool). unwrap_or o around) (sym c.in-None.is ∙ c.own_space.ensures)
    ∙ preserves_in c.args.tree.now c.len-count.ensures.tree c.args.n c.requires.inside c.args.parent around c.requires.parent
    c.is_preserved_around-around.ensures
