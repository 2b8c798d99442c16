-- A name whose key the set has not is none of the list.
use Rattle.std.proofs.Common.{◌≡◌, ◌∙◌, ap, false, subst, sym}
use Rattle.std.specs.BTreeSet.{contains}
use Rattle.std.specs.List.{list_any}
use Rattle.xs_build.specs.steps.Lines.{same_name}
use Rattle.xs_build.specs.steps.NameSets.{key_of, order_of_keys}
use Rattle.xs_build.proofs.NameSetLemmas.{none_among}
use Rattle.xs_build.proofs.TagNameLemmas.{any_either_way, is_same}
use Rattle.xs_build.proofs.name_set.NameSet.has.Goals as goal

pub returns-then-contains : goal.returns-then-contains
returns-then-contains c =
    c.contains-then-contains.ensures.value ∙ ap (list_any (λ x. is_same x c.args.name.now)) c.deref.ensures.value
    ∙ any_either_way c.args.name.now c.self.inside.names.items ∙ ap (list_any (same_name c.args.name.now)) c.self.view_is

pub returns-else-contains : goal.returns-else-contains
returns-else-contains c =
    let out : contains order_of_keys c.self.inside.sorted (key_of c.args.name.now) ≡ false = ap (λ key. contains order_of_keys c.self.inside.sorted key)
    (sym c.requires) ∙ sym c.contains.ensures ∙ c.if-contains.false in
    sym (subst (λ xs. list_any (same_name c.args.name.now) xs ≡ false) c.self.view_is
    (none_among c.self.inside.sorted c.args.name.now c.self.inside.names.items c.self.invariant out))
