use Rattle.std.proofs.Common.{◌≡◌, ◌∙◌, sym, true, length, reverse, arith}
use Rattle.std.specs.Prelude.{not}
use Rattle.std.specs.Vec.{vec_len}
use Rattle.std.proofs.lemmas.Bool.{eqb-true}
use Rattle.xs_build.specs.Namespaces.{is_empty}
use Rattle.xs_build.proofs.BindingLemmas.{has_same}
use Rattle.xs_build.proofs.builder.Builder.start.Goals as goal
use Rattle.xs_build.proofs.builder.Builder.start.Goals.{then-is_empty, else-is_empty}

pub start_in-requires-clause-same : goal.start_in-requires-clause-same
start_in-requires-clause-same c =
    elim c.if-is_empty.branch [
      | then-is_empty w ↦ λ h.
          let none : length c.in_ok-declared.declared.items ≡ 0 =
          omega (arith, c.in_ok-declared.declared.ok.0, eqb-true (vec_len c.in_ok-declared.declared) 0 (sym c.is_empty.ensures ∙ w.if-is_empty.true)) in
          let inside : not (is_empty (reverse c.args.self.now.around.items)) ≡ true =
          cc (w.is_inside-is_same.ensures, w.as_slice-then-is_empty.ensures.value) in
          has_same (reverse c.args.self.now.around.items) c.in_ok-declared.declared.items c.in_ok-scope.scope none inside c.in_ok-scope.ensures
      | else-is_empty w ↦ λ h. absurd (cc)
    ]
