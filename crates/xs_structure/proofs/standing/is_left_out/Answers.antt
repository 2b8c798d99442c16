use Rattle.std.proofs.Common.{◌∙◌, ap, sym}
use Rattle.std.specs.Prelude.{◌&&◌}
use Rattle.xs_structure.proofs.StandingLemmas.{left_out_is}
use Rattle.xs_structure.specs.Excluded.{is_left_out}
use Rattle.xs_structure.specs.steps.Namespaces.{is_left_out_by}
use Rattle.xs_tree.specs.declared.kinds.Kind.{Kind}
use Rattle.xs_tree.specs.Kinds.{is_namespace_kind}
use Rattle.xs_tree.specs.Record.{at}
use Rattle.xs_structure.proofs.standing.is_left_out.Goals as goal

pub returns-in-Space : goal.returns-in-Space
returns-in-Space c =
    let rs = c.args.tree.now in
    let n = c.args.n in
    let ns = c.args.namespaces.now in
    c.leave_out.ensures ∙ ap (is_left_out_by ns n) c.text.ensures.text
    ∙ left_out_is rs c.len-count.ensures.tree n c.requires.inside ns c.requires.namespaces (at rs n).text
    ∙ ap (λ (k : Kind). is_namespace_kind k && is_left_out rs n (at rs n).text) (sym c.in-Space.is ∙ c.kind.ensures.kind)
