use Rattle.std.proofs.Common.{◌∙◌, ap, refl}
use Rattle.xs_result_lines.specs.Bindings.{bindings_before}
use Rattle.xs_result_lines.specs.steps.Open.{bindings_of}
use Rattle.xs_result_lines.specs.steps.Pending.{lent}
use Rattle.xs_result_lines.proofs.BoundLemmas.{bound_opened, bound_written}
use Rattle.xs_result_lines.proofs.StreamLemmas.{on_ok}
use Rattle.xs_result_lines.proofs.writer.PyxWriter.bound_tag.Goals as goal

pub returns-clause-written : goal.returns-clause-written
returns-clause-written c =
    on_ok c.enter.result (λ entered. bound_written c.args.self.now c.args.name.now (lent c.args.added.now)
    (bindings_before c.args.name.now (lent c.args.added.now)) (bindings_of c.deref.result.now) c.args.out.now.items c.append_bound_tag.new.out.items refl
    c.requires.own c.requires.simple (ap bindings_of c.deref.ensures.value ∙ c.requires.declares) c.in_ok-append_bound_tag.ensures.written) c.enter.ensures

pub returns-clause-opened : goal.returns-clause-opened
returns-clause-opened c =
    on_ok c.enter.result (λ entered. bound_opened c.args.self.now c.enter.new.self c.args.name.now (lent c.args.added.now)
    (bindings_before c.args.name.now (lent c.args.added.now)) (bindings_of c.args.declarations.items) refl c.requires.own c.requires.simple c.requires.declares
    entered) c.enter.ensures
