use Rattle.std.proofs.Common.{◌≡◌, ◌∙◌, ap, arith, length, sym, vec_len}
use Rattle.xs_result_lines.proofs.PendingLemmas.{alone_none, begun_none, no_events, nothing_opened, nothing_written}
use Rattle.xs_result_lines.proofs.open_tag.OpenTag.write.Goals as goal

pub returns-then-is_empty-clause-state : goal.returns-then-is_empty-clause-state
returns-then-is_empty-clause-state c =
    let events = c.self.inside.events in
    let count : vec_len events ≡ length events.items = omega (arith, events.ok.0) in
    no_events events.items (vec_len events) c.args.self.now count (sym c.is_empty.ensures ∙ c.if-is_empty.true) c.self.view_is

pub returns-then-is_empty-clause-written : goal.returns-then-is_empty-clause-written
returns-then-is_empty-clause-written c =
    let events = c.self.inside.events in
    let count : vec_len events ≡ length events.items = omega (arith, events.ok.0) in
    nothing_written c.args.writer.now c.args.self.now c.args.out.now.items
    (no_events events.items (vec_len events) c.args.self.now count (sym c.is_empty.ensures ∙ c.if-is_empty.true) c.self.view_is)

pub returns-then-is_empty-clause-opened : goal.returns-then-is_empty-clause-opened
returns-then-is_empty-clause-opened c =
    let events = c.self.inside.events in
    let count : vec_len events ≡ length events.items = omega (arith, events.ok.0) in
    nothing_opened c.args.writer.now c.args.self.now
    (no_events events.items (vec_len events) c.args.self.now count (sym c.is_empty.ensures ∙ c.if-is_empty.true) c.self.view_is)

pub invariant_of-self : goal.invariant_of-self
invariant_of-self c = alone_none _ (begun_none c.clear.new.self.items c.clear.ensures.items)

pub returns-clause-state : goal.returns-clause-state
returns-clause-state c = ap (λ s. s.tag) (begun_none c.clear.new.self.items c.clear.ensures.items)
