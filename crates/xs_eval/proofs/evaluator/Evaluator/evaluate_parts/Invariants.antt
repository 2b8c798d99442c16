use Rattle.std.proofs.Common.{◌≡◌, drop}
use Rattle.std.specs.String.{string_bytes}
use Rattle.xs_trace.specs.Run.{fold, limited}
use Rattle.xs_xpath.specs.AvtParts.{parts_from}
use Rattle.xs_eval_spec.specs.Templates.{template}
use Rattle.xs_eval.proofs.TemplateLemmas.{and_parsed}
use Rattle.xs_eval.proofs.evaluator.Evaluator.evaluate_parts.Given as goal

abbrev pub invariant-loop-part : goal.invariant-loop-part
invariant-loop-part g l =
    (limited l.self.site (template (g.K.KeyFinder.tables l.self.keys.now) (parts_from l.parts) l.context) (g.T.Tally.state l.fn.tally)
    ≡ limited l.self.site (fold (and_parsed (g.K.KeyFinder.tables l.self.keys.now) l.context) (string_bytes l.text) (drop l.part-index l.parts))
    (g.T.Tally.state l.tally)) ×
    (g.T.Tally.kept l.tally ≡ g.T.Tally.kept l.fn.tally)
