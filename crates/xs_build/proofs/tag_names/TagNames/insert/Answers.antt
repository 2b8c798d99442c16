-- The first few names are compared the other way round.
use Rattle.std.proofs.Common.{◌∙◌, ap}
use Rattle.std.specs.List.{list_any}
use Rattle.std.proofs.lemmas.Result.{IfOk-weaker}
use Rattle.xs_build.proofs.TagNameLemmas.{is_same, found_in_few, found_in_others, found_nowhere}
use Rattle.xs_build.proofs.tag_names.TagNames.insert.Goals as goal

pub returns-then-contains-clause-new : goal.returns-then-contains-clause-new
returns-then-contains-clause-new c =
    found_in_few c.self.inside.few.items c.self.inside.others c.args.self.now c.args.name c.contains.result c.self.view_is
    (c.contains.ensures.value ∙ ap (list_any (λ x. is_same x c.args.name)) c.deref.ensures.value) c.if-contains.true

pub returns-then-len-lt-FEW-clause-new : goal.returns-then-len-lt-FEW-clause-new
returns-then-len-lt-FEW-clause-new c =
    found_nowhere c.self.inside.few.items c.self.inside.others c.args.self.now c.args.name c.contains.result c.self.view_is
    (c.contains.ensures.value ∙ ap (list_any (λ x. is_same x c.args.name)) c.deref.ensures.value) c.if-contains.false
    (c.is_empty.ensures.0 c.if-is_empty.true)

pub returns-clause-new : goal.returns-clause-new
returns-clause-new c =
    IfOk-weaker c.insert.result _ _
    (λ is_new is. found_in_others c.self.inside.few.items c.self.inside.others c.args.self.now c.args.name c.contains.result c.self.view_is
    (c.contains.ensures.value ∙ ap (list_any (λ x. is_same x c.args.name)) c.deref.ensures.value) is_new c.if-contains.false is) c.insert.ensures.new
