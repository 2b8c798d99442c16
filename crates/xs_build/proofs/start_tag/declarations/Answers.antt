use Rattle.std.proofs.Common.{◌∙◌, sym}
use Rattle.xs_build.proofs.DeclarationLemmas.{declared_more, declared_all}
use Rattle.xs_build.proofs.start_tag.declarations.Goals as goal

pub loop-rest-preserved : goal.loop-rest-preserved
loop-rest-preserved c =
    declared_more c.loop-rest.declared.items c.push_declaration.new.declared.items c.loop-rest.rest.now c.skip_line-rest.result.now _
    (sym c.is_attribute.ensures ∙ c.loop-rest-test.true) c.in_ok-push_declaration.ensures c.skip_line-rest.ensures.behind c.loop-rest.invariant

pub returns : goal.returns
returns c =
    declared_all c.loop-rest.declared.items c.loop-rest.rest.now _ (sym c.is_attribute.ensures ∙ c.loop-rest-test.false) c.loop-rest.invariant
