use Rattle.std.proofs.Common.{◌≡◌, ◌<◌, ◌∙◌, ap, length, sym}
use Rattle.std.proofs.lemmas.List.Elements.{All-same}
use Rattle.std.proofs.lemmas.Result.{err_from_is_err_and}
use Rattle.xs_trace.specs.Run.{costs, give, limited}
use Rattle.xs_value.specs.declared.value.Value.TheVariants.{Nodes}
use Rattle.xs_value.specs.Tables.{table_at}
use Rattle.xs_eval_spec.specs.Functions.{second}
use Rattle.xs_eval_spec.specs.Keys.{found, from_table, sought}
use Rattle.xs_eval.proofs.KeyLemmas.{found-inside}
use Rattle.xs_eval_spec.proofs.StepLemmas.{exits_at_costs}
use Rattle.xs_eval.proofs.evaluator.Evaluator.look_up.Goals as goal

-- its ticks: the nodes are dropped there, which the search does not get past
pub returns-in_err-tick_several-in-Ok-clause-reported : goal.returns-in_err-tick_several-in-Ok-clause-reported
returns-in_err-tick_several-in-Ok-clause-reported g c =
    let p = err_from_is_err_and c.from_residual.result c.from_residual.ensures.1 in
    let ctx = c.args.context.now in
    let t = table_at (g.K.KeyFinder.tables c.args.self.now.keys.now) c.args.key in
    let texts = sought ctx (second c.args.values.now) in
    let s = g.T.Tally.state c.args.tally.now in
    let ns = c.nodes.result.now in
    let same : found ctx t texts ≡ ns = sym {b = found ctx t texts} (c.nodes.ensures.nodes ∙ c.in-Ok.ensures.found.1) in
    exits_at_costs (λ v. v) c.args.self.now.site (length ns) (give (Nodes ns)) _ s (g.T.Tally.state c.tick_several.new.tally) c.from_residual.result _ _
    (ap (λ f. limited c.args.self.now.site (from_table ctx t f texts) s) c.in-Ok.ensures.found.0
    ∙ ap (λ l. limited c.args.self.now.site (costs (length l) (give (Nodes l))) s) same) p.1 p.2 c.in_err-tick_several-in-Ok.ensures.reported

pub returns-in_ok-tick_several-in-Ok-clause-inside : goal.returns-in_ok-tick_several-in-Ok-clause-inside
returns-in_ok-tick_several-in-Ok-clause-inside g c =
    let ctx = c.args.context.now in
    let tables = g.K.KeyFinder.tables c.args.self.now.keys.now in
    let texts = sought ctx (second c.args.values.now) in
    All-same (λ k. k < length ctx.tree) c.in-Ok.found (found ctx (table_at tables c.args.key) texts) c.in-Ok.ensures.found.1
    (found-inside ctx tables c.args.key texts c.requires.context.tables)
