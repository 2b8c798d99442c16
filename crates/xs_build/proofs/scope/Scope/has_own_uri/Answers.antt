use Rattle.xs_build.proofs.NameLemmas.{attribute_bound, attribute_unbound}
use Rattle.xs_build.proofs.scope.Scope.has_own_uri.Goals as goal

pub returns-then-is_empty : goal.returns-then-is_empty
returns-then-is_empty c = λ bare.
    attribute_unbound c.args.self.now c.args.name.now.prefix c.args.name.now.local c.args.name.now.uri
    c.as_str.result.now c.as_str-then-is_empty.result.now c.is_empty.result c.is_empty-then-is_empty.result
    c.as_str.ensures.value c.is_empty.ensures c.if-is_empty.true
    c.as_str-then-is_empty.ensures.value c.is_empty-then-is_empty.ensures bare

pub returns-in-Some : goal.returns-in-Some
returns-in-Some c = λ holds.
    attribute_bound c.args.self.now c.args.name.now.prefix c.args.name.now.local c.in-Some.uri.now c.args.name.now.uri
    c.as_str-in-Some.result.now c.as_str-in-Some-2.result.now c.as_str.result.now c.is_empty.result c.eq.result
    c.as_str.ensures.value c.is_empty.ensures c.if-is_empty.false
    c.in-Some.ensures c.as_str-in-Some.ensures.value c.as_str-in-Some-2.ensures.value c.eq.ensures holds
