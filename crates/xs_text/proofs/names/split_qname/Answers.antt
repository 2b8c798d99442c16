use Rattle.std.proofs.Common.{◌∙◌, lit<}
use Rattle.xs_text.proofs.NameLemmas.{qname-whole, qname-cut, parts-said, none-said}
use Rattle.xs_text.proofs.names.split_qname.Goals as goal

pub returns-in-Some-clause-named : goal.returns-in-Some-clause-named
returns-in-Some-clause-named c =
    let cut = c.in-Some.ensures.byte (lit< tt) (λ w o h. h) in
    c.prefixed.ensures ∙ qname-cut c.args.s.now c.in-Some.prefix.now c.in-Some.local.now cut.0 cut.1 cut.2

pub returns-in-None-clause-named : goal.returns-in-None-clause-named
returns-in-None-clause-named c =
    c.unprefixed.ensures ∙ qname-whole c.args.s.now (c.in-None.ensures.byte (lit< tt) (λ w o h. h))

pub returns-in-Some-clause-parts : goal.returns-in-Some-clause-parts
returns-in-Some-clause-parts c = parts-said c.args.s.now c.prefixed.result (returns-in-Some-clause-named c)

pub returns-in-None-clause-parts : goal.returns-in-None-clause-parts
returns-in-None-clause-parts c = parts-said c.args.s.now c.unprefixed.result (returns-in-None-clause-named c)

pub returns-in-Some-clause-none : goal.returns-in-Some-clause-none
returns-in-Some-clause-none c = none-said c.args.s.now c.prefixed.result c.utf8.s (returns-in-Some-clause-named c)

pub returns-in-None-clause-none : goal.returns-in-None-clause-none
returns-in-None-clause-none c = none-said c.args.s.now c.unprefixed.result c.utf8.s (returns-in-None-clause-named c)
