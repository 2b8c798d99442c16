use Rattle.std.proofs.Common.{◌∷◌, ◌∙◌, ap, refl}
use Rattle.xs_result_lines.specs.Lines.{scope_of}
use Rattle.xs_result_lines.proofs.PendingLemmas.{plain_view}
use Rattle.xs_result_lines.proofs.writer.PyxWriter.enter_plain.Goals as goal

pub returns : goal.returns
returns c =
    plain_view c.self.inside.elements.items c.push.new.self.items (record { name = c.in_ok-name.name; declared = 0 }) c.self.inside.scope c.args.self.now
    c.in_ok-push.ensures.items refl c.self.invariant c.self.view_is
    ∙ ap (λ n. record { name = n; scope = scope_of c.args.self.now } ∷ c.args.self.now) c.in_ok-name.ensures
