use Rattle.xs_build.proofs.NameLemmas.{element_bound, element_unbound}
use Rattle.xs_build.proofs.scope.Scope.has_uri_of.Goals as goal

pub returns-in-Some : goal.returns-in-Some
returns-in-Some c = λ holds.
    element_bound c.args.self.now c.args.name.now.prefix c.args.name.now.local c.in-Some.uri.now c.args.name.now.uri
    c.as_str.result.now c.as_str-in-Some.result.now c.eq.result
    c.in-Some.ensures c.as_str.ensures.value c.as_str-in-Some.ensures.value c.eq.ensures holds

pub returns-then-is_empty : goal.returns-then-is_empty
returns-then-is_empty c = λ bare.
    element_unbound c.args.self.now c.args.name.now.prefix c.args.name.now.local c.args.name.now.uri
    c.as_str-in-None.result.now c.as_str-then-is_empty.result.now c.is_empty.result c.is_empty-then-is_empty.result
    c.in-None.ensures c.as_str-in-None.ensures.value c.is_empty.ensures c.if-is_empty.true
    c.as_str-then-is_empty.ensures.value c.is_empty-then-is_empty.ensures bare
