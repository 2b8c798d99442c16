use Rattle.std.proofs.Common.{◌∙◌, ap, reverse}
use Rattle.xs_parser.specs.steps.Scan.{arguments_by}
use Rattle.xs_parser.proofs.VerdictLemmas.{scan-step, scan-all}
use Rattle.xs_parser.proofs.arity.first_wrong.Goals as goal

pub loop-placed-preserved : goal.loop-placed-preserved
loop-placed-preserved c =
    let l = c.loop-placed in
    scan-step _ l.rest.now c.in-Some.before.now c.in-Some.placed.now (reverse l.counts.items)
    (reverse c.in_ok-counts.counts.items) l.ends c.closes-ends.result l.found c.wrong_by-found.result c.arguments_by.result
    l.invariant c.in-Some.ensures.cases.0 (c.arguments_by.ensures.arguments
    ∙ ap (λ xs. arguments_by (reverse xs) l.ends) c.deref.ensures.value) c.wrong_by-found.ensures.found c.closes-ends.ensures.closes
    c.in_ok-counts.ensures.counts

pub returns : goal.returns
returns c =
    let l = c.loop-placed in record {
      first = scan-all c.args.lexemes.now l.rest.now (reverse l.counts.items) l.ends l.found l.invariant c.in_default.ensures.cases;
    }
