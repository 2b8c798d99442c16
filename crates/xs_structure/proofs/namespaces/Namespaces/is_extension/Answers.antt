use Rattle.std.proofs.Common.{◌∙◌, ap, List, [], ℕ}
use Rattle.xs_structure.proofs.StandingLemmas.{extension_is}
use Rattle.xs_structure.specs.InForce.{in_force_at}
use Rattle.xs_tree.specs.Record.{uri_at}
use Rattle.xs_structure.proofs.namespaces.Namespaces.is_extension.Goals as goal

pub returns : goal.returns
returns c =
    let rs = c.args.tree.now in
    let n = c.args.n in
    c.has.ensures ∙ ap (λ (x : List ℕ). in_force_at c.args.self.now.extensions x [] c.place.result) c.uri.ensures.uri
    ∙ ap (λ (x : ℕ). in_force_at c.args.self.now.extensions (uri_at rs n) [] x) c.place.ensures
    ∙ extension_is rs n c.args.self.now c.len-count.ensures.tree c.requires.inside c.requires.namespaces
