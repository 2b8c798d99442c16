use Rattle.std.proofs.Common.{◌∙◌, ap, map}
use Rattle.xs_attribute_sets.specs.Indexed.{listed}
use Rattle.xs_attribute_sets.proofs.ListLemmas.{found-same, key-swap, key_of}
use Rattle.xs_attribute_sets.proofs.lists.take_list.Goals as goal

pub returns-in-Some-clause-taken : goal.returns-in-Some-clause-taken
returns-in-Some-clause-taken c = λ name same. ap listed c.in-Some.ensures.value ∙ found-same c.args.lists.now name c.args.key same

pub returns-in-Some-clause-others : goal.returns-in-Some-clause-others
returns-in-Some-clause-others c = λ name other. ap listed (c.in-Some.ensures.updates.2 (key_of name) (key-swap c.args.key name ∙ other))

pub returns-in-None-clause-taken : goal.returns-in-None-clause-taken
returns-in-None-clause-taken c = λ name same.
    ap (map (λ s. s.now)) c.new.ensures.items ∙ ap listed c.in-None.ensures.value ∙ found-same c.args.lists.now name c.args.key same

pub returns-in-None-clause-others : goal.returns-in-None-clause-others
returns-in-None-clause-others c = λ name other. ap listed (c.in-None.ensures.updates.2 (key_of name) (key-swap c.args.key name ∙ other))
