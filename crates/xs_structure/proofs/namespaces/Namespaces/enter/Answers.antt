use Rattle.std.proofs.Common.{◌∙◌, ap, ℕ, List, []}
use Rattle.std.specs.Prelude.{option_map}
use Rattle.xs_structure.proofs.StandingLemmas.{declared_more, extension_next}
use Rattle.xs_structure.specs.Excluded.{excluded_value}
use Rattle.xs_structure.specs.InForce.{in_force_at}
use Rattle.xs_elements.specs.declared.tags.Tag.{Tag}
use Rattle.xs_elements.specs.Reading.{extension_value, reading_of}
use Rattle.xs_tree.specs.Record.{uri_at}
use Rattle.xs_structure.proofs.namespaces.Namespaces.enter.Goals as goal

pub excluded_value-excluded-requires-clause-extension : goal.excluded_value-excluded-requires-clause-extension
excluded_value-excluded-requires-clause-extension c =
    let rs = c.args.tree.now in
    let n = c.args.n in
    let new = c.enter_value.new.in_force in
    c.has-is_extension.ensures ∙ ap (λ (x : List ℕ). in_force_at new x [] c.place.result) c.uri.ensures.uri
    ∙ ap (λ (x : ℕ). in_force_at new (uri_at rs n) [] x) c.place.ensures
    ∙ extension_next rs n c.subtree_end-end.result c.args.self.now new c.subtree_end-end.ensures.tree c.subtree_end-end.ensures.end
    c.requires.inside c.requires.namespaces c.args.scope.now.pairs.items c.requires.scope (option_map (λ v. v.now) c.extension_value-extensions.result)
    (c.extension_value-extensions.ensures ∙ ap (λ (tag : Tag). extension_value tag rs n) c.requires.tag) c.in_ok-enter_value.ensures

pub returns : goal.returns
returns c =
    let rs = c.args.tree.now in
    let n = c.args.n in
    declared_more rs n c.subtree_end-end.result c.args.self.now _ c.subtree_end-end.ensures.tree c.subtree_end-end.ensures.end
    c.requires.namespaces c.args.scope.now.pairs.items c.requires.scope
    (option_map (λ v. v.now) c.extension_value-extensions.result) (option_map (λ v. v.now) c.excluded_value-excluded.result)
    (c.extension_value-extensions.ensures ∙ ap (λ (tag : Tag). extension_value tag rs n) c.requires.tag)
    (c.excluded_value-excluded.ensures ∙ ap (λ (tag : Tag). excluded_value (reading_of rs n) tag rs n) c.requires.tag)
    c.in_ok-enter_value.ensures c.in_ok-enter_value-2.ensures
