use Rattle.std.proofs.Common.{◌≡◌, ap, sym, subst, ◌∙◌, IfOk}
use Rattle.xs_value.specs.Tables.{table_at}
use Rattle.xs_eval_spec.specs.Context.{Context}
use Rattle.xs_eval_spec.specs.Keys.{number_of}
use Rattle.xs_eval_spec.specs.Names.{expanded_name}
use Rattle.xs_pattern.specs.steps.Keys.{has_node}
use Rattle.xs_pattern.proofs.FoundLemmas.{key-known}
use Rattle.xs_pattern.proofs.matcher.Matcher.is_given_by_key.Goals as goal

pub returns-in-Some : goal.returns-in-Some
returns-in-Some g c =
    let keys = g.K.KeyFinder.tables c.args.self.now.keys.now in
    let name = c.args.name.now in
    let text = c.args.text.now in
    let table = table_at keys c.in-Some.key in
    record {
      given =
          subst (λ x. IfOk c.has_node.result (λ b. b ≡ x))
          (sym (key-known keys c.args.context.now name text c.in-Some.key
          c.has_node.ensures.list
          (sym (c.in-Some.ensures.number ∙ ap (λ (x : Context). number_of keys (expanded_name x.scope name)) c.context.view_is))))
          (subst (λ (x : Context). IfOk c.has_node.result (λ b. b ≡ has_node table table.fault text x.node)) c.context.view_is c.has_node.ensures.has);
    }
