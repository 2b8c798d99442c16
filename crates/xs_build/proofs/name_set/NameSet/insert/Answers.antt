-- A key is put into the set before its name is put at the end of the list.
use Rattle.std.proofs.Common.{true, subst, sym}
use Rattle.std.specs.BTreeSet.{Updates}
use Rattle.xs_build.specs.steps.NameSets.{AreIn, order_of_keys}
use Rattle.xs_build.proofs.NameSetLemmas.{AreIn-more, AreIn-push}
use Rattle.xs_build.proofs.name_set.NameSet.insert.Goals as goal

pub invariant_of-self-in_err-push : goal.invariant_of-self-in_err-push
invariant_of-self-in_err-push c =
    subst (λ names. AreIn c.insert.new.self names) (sym c.in_err-push.ensures.items)
    (AreIn-more c.self.inside.sorted c.insert.new.self c.in_ok-key.key c.self.inside.names.items c.in_ok-insert.ensures.updates c.self.invariant)

pub invariant_of-self-2 : goal.invariant_of-self-2
invariant_of-self-2 c =
    let updates : Updates order_of_keys c.self.inside.sorted c.insert.new.self _ true =
    subst (λ key. Updates order_of_keys c.self.inside.sorted c.insert.new.self key true) c.in_ok-key.ensures c.in_ok-insert.ensures.updates in
    subst (λ names. AreIn c.insert.new.self names) (sym c.in_ok-push.ensures.items)
    (AreIn-push c.self.inside.sorted c.insert.new.self c.args.name c.self.inside.names.items updates c.self.invariant)
