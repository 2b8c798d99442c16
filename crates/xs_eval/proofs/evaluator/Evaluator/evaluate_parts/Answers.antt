use Rattle.std.proofs.Common.{◌∙◌, ◌+◌, Global, String, ap, arith, drop, refl, sym}
use Rattle.std.proofs.lemmas.Result.{err_from_is_err_and}
use Rattle.std.specs.String.{string_bytes}
use Rattle.xs_trace.specs.Run.{fold, give, limited}
use Rattle.xs_xpath.specs.AvtParts.{parts_from}
use Rattle.xs_eval_spec.specs.Templates.{template}
use Rattle.xs_eval_spec.proofs.StepLemmas.{exits_in_items, gives_alone, items_on}
use Rattle.xs_eval.proofs.TemplateLemmas.{and_parsed, parts-run}
use Rattle.xs_eval.proofs.evaluator.Evaluator.evaluate_parts.Goals as goal

pub returns-in_err-text-clause-reported : goal.returns-in_err-text-clause-reported
returns-in_err-text-clause-reported g c =
    let p = err_from_is_err_and c.from_residual.result c.from_residual.ensures.1 in
    let keys = g.K.KeyFinder.tables c.args.self.now.keys.now in
    let f = and_parsed keys c.args.context.now in
    let l = c.loop-part in
    let s = g.T.Tally.state l.tally in
    exits_in_items (λ (t : String Global). string_bytes t) (λ (t : String Global). string_bytes t) c.args.self.now.site f (λ text. give text)
    c.args.parts.now l.part-index c.part-item.result
    (string_bytes l.text) s (g.T.Tally.state c.add_part.new.tally)
    (limited c.args.self.now.site (template keys (parts_from c.args.parts.now) c.args.context.now) (g.T.Tally.state c.args.tally.now))
    c.from_residual.result _ _
    (l.invariant.0 ∙ sym (gives_alone c.args.self.now.site (fold f (string_bytes l.text) (drop l.part-index c.args.parts.now)) s))
    (omega arith) (sym c.part-item.is) p.1 p.2 c.in_err-text.ensures.reported

pub loop-part-preserved : goal.loop-part-preserved
loop-part-preserved g c =
    let keys = g.K.KeyFinder.tables c.args.self.now.keys.now in
    let f = and_parsed keys c.args.context.now in
    let l = c.loop-part in
    let s = g.T.Tally.state l.tally in
    let m = g.T.Tally.state c.add_part.new.tally in
    let next = string_bytes c.in_ok-text.text in (
      items_on c.args.self.now.site f (λ text. give text) c.args.parts.now l.part-index c.part-item.result (string_bytes l.text) next s m
          (limited c.args.self.now.site (template keys (parts_from c.args.parts.now) c.args.context.now) (g.T.Tally.state c.args.tally.now))
          (l.invariant.0 ∙ sym (gives_alone c.args.self.now.site (fold f (string_bytes l.text) (drop l.part-index c.args.parts.now)) s))
          (omega arith) (sym c.part-item.is) c.in_ok-text.ensures.reported
          ∙ gives_alone c.args.self.now.site (fold f next (drop (l.part-index + 1) c.args.parts.now)) m,
      c.in_ok-text.ensures.kept ∙ l.invariant.1,
    )

pub loop-part-init : goal.loop-part-init
loop-part-init g c =
    let keys = g.K.KeyFinder.tables c.args.self.now.keys.now in
    let s = g.T.Tally.state c.args.tally.now in (
      ap (λ r. limited c.args.self.now.site r s) (parts-run keys c.args.context.now c.args.parts.now)
          ∙ ap (λ text. limited c.args.self.now.site (fold (and_parsed keys c.args.context.now) text c.args.parts.now) s) (sym c.new-text.ensures.bytes),
      refl,
    )
