use Rattle.std.proofs.Common.{◌≡◌, ◌∙◌, sym, ap, subst, length, arith}
use Rattle.std.specs.Result.{IfOk}
use Rattle.std.specs.Vec.{vec_len}
use Rattle.std.proofs.lemmas.Bool.{eqb-true}
use Rattle.xs_build.specs.Namespaces.{Bindings, scope_with}
use Rattle.xs_build.specs.steps.Views.{bindings_of}
use Rattle.xs_build.proofs.BindingLemmas.{same_entries, with_none}
use Rattle.xs_build.proofs.scope.Scope.with.Goals as goal

pub returns-then-is_empty : goal.returns-then-is_empty
returns-then-is_empty c =
    let none : length c.args.declared.items ≡ 0 =
    omega (arith, c.args.declared.ok.0, eqb-true (vec_len c.args.declared) 0 (sym c.is_empty.ensures ∙ c.if-is_empty.true)) in
    subst (λ (s : Bindings). IfOk c.share.result (λ scope. scope ≡ s)) (with_none c.args.declared.items c.args.self.now none) c.share.ensures

pub returns : goal.returns
returns c =
    ap (λ m. m.entries) c.in_ok-new.ensures.ok ∙ c.in_ok-bind_all.ensures
    ∙ ap (scope_with (bindings_of c.args.declared))
    (same_entries c.bindings.result.now.entries c.in_ok-bindings.bindings.entries c.in_ok-bindings.ensures.cases ∙ c.bindings.ensures)
