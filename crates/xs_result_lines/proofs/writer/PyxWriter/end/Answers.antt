use Rattle.std.proofs.Common.{◌≡◌}
use Rattle.xs_result_lines.proofs.PendingLemmas.{plain_end}
use Rattle.xs_result_lines.proofs.StreamLemmas.{on_ok}
use Rattle.xs_result_lines.proofs.writer.PyxWriter.end.Goals as goal

pub returns-then-declared-eq0-clause-written : goal.returns-then-declared-eq0-clause-written
returns-then-declared-eq0-clause-written c =
    let frame = c.in-Some.field-0 in
    let none : frame.declared ≡ 0 = cc in
    on_ok c.append_end.result (λ is es. plain_end c.self.inside.elements.items c.pop.new.self.items frame c.self.inside.scope c.args.self.now
    c.args.out.now.items c.append_end.new.out.items es c.in-Some.ensures.items none c.self.view_is is) c.append_end.ensures.written
