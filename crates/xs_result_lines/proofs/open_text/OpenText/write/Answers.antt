use Rattle.std.proofs.Common.{◌≡◌, ◌∙◌, ap, arith, length, sym, vec_len}
use Rattle.xs_result_lines.specs.steps.Pending.{joined}
use Rattle.xs_result_lines.proofs.PendingLemmas.{no_items, no_text}
use Rattle.xs_result_lines.proofs.open_text.OpenText.write.Goals as goal

pub returns-then-is_empty-clause-written : goal.returns-then-is_empty-clause-written
returns-then-is_empty-clause-written c =
    let pieces = c.self.inside.pieces in
    let count : vec_len pieces ≡ length pieces.items = omega (arith, pieces.ok.0) in
    let none = no_items pieces.items (vec_len pieces) count (sym c.is_empty.ensures ∙ c.if-is_empty.true) in
    no_text c.args.self.now c.args.out.now.items (sym c.self.view_is ∙ ap joined none)
