use Rattle.std.proofs.Common.{◌≡◌, ◌∙◌, ◌==◌, [], Option, Some, ap, cond}
use Rattle.std.proofs.lemmas.Bool.{eqb-true}
use Rattle.std.specs.Option.{option_map_or}
use Rattle.indexmap.specs.IndexMap.{get_by}
use Rattle.xs_xpath.specs.Exprs.{tree_from}
use Rattle.xs_rules.specs.declared.kind_lists.KindLists.{KindLists}
use Rattle.xs_rules.specs.steps.Kinds.{allows_kind}
use Rattle.xs_rules.specs.steps.Lists.{places_for, unnamed_in}
use Rattle.xs_rules.proofs.ListLemmas.{unnamed-more}
use Rattle.xs_rules.proofs.places.add_unnamed.Goals as goal

pub returns : goal.returns
returns c = λ m kind.
    let mid : Option KindLists = get_by (λ k. m == k) c.take_unnamed-lists.new.unnamed in
    let e : get_by (λ k. m == k) c.insert.new.self ≡ cond (c.args.mode == m) (Some c.add.new.self) mid = c.in_ok-insert.ensures.updates.0 m in
    ap (λ (o : Option KindLists). option_map_or (places_for kind) o []) e
    ∙ unnamed-more (c.args.mode == m) (allows_kind (tree_from c.args.alternative.now) kind) kind c.add.new.self mid c.args.place
    (places_for kind c.take_unnamed-lists.result) (unnamed_in c.args.unnamed.now m kind) (c.in_ok-add.ensures kind)
    (λ same. c.take_unnamed-lists.ensures.taken kind ∙ ap (λ n. unnamed_in c.args.unnamed.now n kind) (eqb-true c.args.mode m same))
    (λ other. c.take_unnamed-lists.ensures.others m kind other)
