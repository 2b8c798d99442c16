use Rattle.std.proofs.Common.{◌≡◌, ◌∙◌, sym, ap, subst, Option, Some}
use Rattle.std.specs.Result.{IfOk}
use Rattle.xs_tree.specs.declared.names.Name.{Name}
use Rattle.xs_build.proofs.BindingLemmas.{element_prefixed, element_plain}
use Rattle.xs_build.proofs.scope.Scope.element_name.Goals as goal

pub returns-then-not-is_empty : goal.returns-then-not-is_empty
returns-then-not-is_empty c =
    subst (λ (n : Option Name). IfOk c.prefixed_name.result (λ name. name ≡ n))
    (element_prefixed c.args.self.now c.args.prefix.now c.args.local.now (sym c.is_empty.ensures ∙ c.if-not-is_empty.true))
    c.prefixed_name.ensures

pub returns : goal.returns
returns c =
    ap Some c.in_ok-plain_name.ensures
    ∙ element_plain c.args.self.now c.args.prefix.now c.args.local.now c.in_ok-default_uri.field-0 (sym c.is_empty.ensures
    ∙ c.if-not-is_empty.false) c.in_ok-default_uri.ensures
