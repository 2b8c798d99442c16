use Rattle.xs_pyx.specs.Writing.{written}
use Rattle.xs_pyx.specs.declared.line.Line.TheVariants as line
use Rattle.std.proofs.Common.{map}
use Rattle.xs_result_lines.specs.Bindings.{attributes_in}
use Rattle.xs_result_lines.specs.Lines.{bytes_of, declaration, element_name}
use Rattle.xs_result_lines.specs.steps.InForce.{own_lines}
use Rattle.xs_result_lines.specs.steps.Open.{bindings_of}
use Rattle.xs_result_lines.specs.steps.Pending.{lent}
use Rattle.xs_result_lines.proofs.BoundLemmas.{bound_bytes}
use Rattle.xs_result_lines.proofs.StreamLemmas.{on_ok}
use Rattle.xs_result_lines.proofs.bound.append_bound_tag.Goals as goal

pub returns-clause-written : goal.returns-clause-written
unfolding bytes_of
returns-clause-written c =
    on_ok c.append_lent_attributes.result (λ own. bound_bytes c.args.out.now.items c.append_start.new.out.items c.append_declarations.new.out.items
    c.append_lent_attributes.new.out.items (written (line.Start (element_name c.args.name.now)))
    (map declaration (bindings_of c.args.declared.now)) (own_lines (attributes_in (lent c.args.added.now))) c.in_ok-append_start.ensures.written
    c.in_ok-append_declarations.ensures.written own) c.append_lent_attributes.ensures.written
