use Rattle.std.proofs.Common.{[], Option, ap, ◌∙◌}
use Rattle.std.specs.Option.{option_map_or}
use Rattle.xs_rules.specs.declared.kind_lists.KindLists.{KindLists}
use Rattle.xs_rules.specs.steps.Lists.{places_for}
use Rattle.xs_rules.proofs.places.take_unnamed.Goals as goal

pub returns-in-Some-clause-others : goal.returns-in-Some-clause-others
returns-in-Some-clause-others c = λ m kind other. ap (λ (o : Option KindLists). option_map_or (places_for kind) o []) (c.in-Some.ensures.updates.2 m other)

pub returns-in-None-clause-others : goal.returns-in-None-clause-others
returns-in-None-clause-others c = λ m kind other. ap (λ (o : Option KindLists). option_map_or (places_for kind) o []) (c.in-None.ensures.updates.2 m other)

pub returns-in-Some-clause-taken : goal.returns-in-Some-clause-taken
returns-in-Some-clause-taken c = λ kind. ap (λ (o : Option KindLists). option_map_or (places_for kind) o []) c.in-Some.ensures.value

pub returns-in-None-clause-taken : goal.returns-in-None-clause-taken
returns-in-None-clause-taken c = λ kind.
    c.new.ensures kind ∙ ap (λ (o : Option KindLists). option_map_or (places_for kind) o []) c.in-None.ensures.value
