use Rattle.std.proofs.Common.{◌∷◌, ◌++◌, ◌∙◌, ap, arith, reverse, sym}
use Rattle.xs_result_lines.specs.Lines.{scope_of}
use Rattle.xs_result_lines.specs.steps.Open.{bindings_of}
use Rattle.xs_result_lines.proofs.OpenLemmas.{entered_opened, still_opened, still_theirs}
use Rattle.xs_result_lines.proofs.writer.PyxWriter.enter.Goals as goal

pub returns-in_ok-enter-in-Some : goal.returns-in_ok-enter-in-Some
returns-in_ok-enter-in-Some c =
    let fs = reverse c.self.inside.elements.items in
    let known = sym c.take.ensures.value ∙ c.in-Some.is in
    entered_opened c.self.inside.elements.items c.push.new.self.items (record { name = c.in_ok-of-in-Some.field-0; declared = c.len.result }) c.in-Some.scope
    c.in_ok-enter-in-Some.field-0 c.args.declared.items c.args.self.now c.in_ok-push-in-Some.ensures.items
    (c.in_ok-enter-in-Some.ensures ∙ ap (λ ds. bindings_of c.args.declared.items ++ ds) c.in_ok-scope-in-Some.ensures)
    (omega (arith, c.args.declared.ok.0, c.len.ensures)) (still_theirs fs c.self.inside.scope c.in-Some.scope known c.self.invariant)
    (still_opened c.args.self.now fs c.self.inside.scope c.in-Some.scope known c.self.view_is)
    ∙ ap (λ n. record { name = n; scope = bindings_of c.args.declared.items ++ scope_of c.args.self.now } ∷ c.args.self.now) c.in_ok-of-in-Some.ensures
