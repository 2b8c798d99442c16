use Rattle.std.proofs.Common.{◌≡◌, ◌<◌, Bool, List, Option, arith, ap, length, subst, sym, ◌∙◌}
use Rattle.xs_tree.specs.declared.kinds.Kind.{Kind}
use Rattle.xs_tree.specs.Record.{at}
use Rattle.xs_tree.proofs.WalkLemmas.{IsPlaced-at}
use Rattle.xs_xpath.specs.declared.expr.Expr.{Expr}
use Rattle.xs_eval_spec.specs.Conditions.{IsContext}
use Rattle.xs_eval_spec.specs.Context.{Context}
use Rattle.xs_eval_spec.specs.Evaluation.{runs_of}
use Rattle.xs_eval_spec.specs.Paths.{passes}
use Rattle.xs_eval_spec.proofs.InsideLemmas.{moved}
use Rattle.xs_eval_spec.proofs.StepLemmas.{no_items}
use Rattle.xs_pattern_spec.specs.Matching.{placed_at, step_nodes}
use Rattle.xs_pattern_spec.specs.Predicates.{is_among}
use Rattle.xs_pattern.specs.steps.Alone.{AreSaid}
use Rattle.xs_pattern.specs.steps.Climb.{stands_on}
use Rattle.xs_pattern.proofs.StepLemmas.{passes-lone, passes-not, said-nodes, stands-not}
use Rattle.xs_pattern.proofs.matcher.Matcher.leads_by.Goals as goal

pub returns-then-not-stands_on : goal.returns-then-not-stands_on
returns-then-not-stands_on g c =
    let ctx = c.args.context.now in
    let kind : c.kind.result ≡ (at ctx.tree c.args.node).kind =
    c.kind.ensures.kind ∙ ap (λ (x : Context). (at x.tree c.args.node).kind) c.context.view_is in
    record {
      leads =
          sym (stands-not c.args.axis c.args.test.now (runs_of (g.K.KeyFinder.tables c.args.self.now.keys.now) c.args.predicates.now) ctx c.args.parent
          c.args.node
          c.requires.node c.requires.parent
          (ap (λ (k : Kind). stands_on c.args.axis k) (sym kind) ∙ sym c.stands_on.ensures ∙ c.if-not-stands_on.true));
    }

pub returns-then-not-passes : goal.returns-then-not-passes
returns-then-not-passes g c =
    let ctx = c.args.context.now in
    record {
      leads =
          sym (passes-not c.args.axis c.args.test.now (runs_of (g.K.KeyFinder.tables c.args.self.now.keys.now) c.args.predicates.now) ctx c.args.parent
          c.args.node
          c.requires.node c.requires.parent
          (sym (c.passes.ensures ∙ ap (λ (x : Context). passes c.args.axis c.args.test.now (at x.tree c.args.node)) c.context.view_is)
          ∙ c.if-not-passes.true));
    }

pub tested-requires : goal.tested-requires
tested-requires g c =
    let ctx = c.args.context.now in
    let before = (IsPlaced-at ctx.tree c.args.node c.args.parent c.requires.tree c.requires.node c.requires.parent).before in
    let inside : c.args.parent < length ctx.tree = omega (arith, before, c.requires.node) in
    subst (λ (x : Context). x.node < length x.tree) (sym c.at_node-around.ensures) inside

pub all_kept-requires-clause-context : goal.all_kept-requires-clause-context
all_kept-requires-clause-context g c =
    λ κs lives.
    let keys = g.K.KeyFinder.tables c.args.self.now.keys.now in
    let ctx = c.args.context.now in
    let before = (IsPlaced-at ctx.tree c.args.node c.args.parent c.requires.tree c.requires.node c.requires.parent).before in
    let inside : c.args.parent < length ctx.tree = omega (arith, before, c.requires.node) in
    subst (λ (x : Context). IsContext keys x) (sym c.at_node-around.ensures) (moved keys ctx c.args.parent _ _ c.requires.context inside)

pub is_kept-requires-clause-context : goal.is_kept-requires-clause-context
is_kept-requires-clause-context g c =
    λ κs lives.
    let keys = g.K.KeyFinder.tables c.args.self.now.keys.now in
    let ctx = c.args.context.now in
    let before = (IsPlaced-at ctx.tree c.args.node c.args.parent c.requires.tree c.requires.node c.requires.parent).before in
    let inside : c.args.parent < length ctx.tree = omega (arith, before, c.requires.node) in
    subst (λ (x : Context). IsContext keys x) (sym c.at_node-around.ensures) (moved keys ctx c.args.parent _ _ c.requires.context inside)

pub returns-in-None : goal.returns-in-None
returns-in-None g c =
    let keys = g.K.KeyFinder.tables c.args.self.now.keys.now in
    let ctx = c.args.context.now in
    let n = c.args.node in
    let around = placed_at ctx c.args.parent in
    let kind : c.kind.result ≡ (at ctx.tree n).kind = c.kind.ensures.kind ∙ ap (λ (x : Context). (at x.tree n).kind) c.context.view_is in
    let none = no_items c.args.predicates.now (omega (arith, c.in-None.ensures.cases)) in
    record {
      leads =
          sym (ap (λ (es : List Expr). is_among n (step_nodes c.args.axis c.args.test.now (runs_of keys es) around)) none
          ∙ passes-lone c.args.axis c.args.test.now ctx c.args.parent n c.requires.node c.requires.parent
          (ap (λ (k : Kind). stands_on c.args.axis k) (sym kind) ∙ sym c.stands_on.ensures ∙ c.if-not-stands_on.false)
          (sym (c.passes.ensures ∙ ap (λ (x : Context). passes c.args.axis c.args.test.now (at x.tree n)) c.context.view_is)
          ∙ c.if-not-passes.false));
    }

-- the predicates say it of the node wherever it stands
pub returns-in-Some-2 : goal.returns-in-Some-2
returns-in-Some-2 g c =
    let keys = g.K.KeyFinder.tables c.args.self.now.keys.now in
    let ctx = c.args.context.now in
    let n = c.args.node in
    let ms = runs_of keys c.args.predicates.now in
    let kind : c.kind.result ≡ (at ctx.tree n).kind = c.kind.ensures.kind ∙ ap (λ (x : Context). (at x.tree n).kind) c.context.view_is in
    record {
      leads =
          said-nodes c.args.axis c.args.test.now ms ctx c.args.parent n c.in-Some-2.said c.requires.node c.requires.parent
          (ap (λ (k : Kind). stands_on c.args.axis k) (sym kind) ∙ sym c.stands_on.ensures ∙ c.if-not-stands_on.false)
          (sym (c.passes.ensures ∙ ap (λ (x : Context). passes c.args.axis c.args.test.now (at x.tree n)) c.context.view_is)
          ∙ c.if-not-passes.false)
          (subst (λ (o : Option Bool). AreSaid n (placed_at ctx c.args.parent) ms o) c.in-Some-2.is
          (subst (λ (x : Context). AreSaid n x ms c.in_ok-said-in-Some.field-0) c.at_node-around.ensures c.in_ok-said-in-Some.ensures.say));
    }

pub say-requires-clause-context : goal.say-requires-clause-context
say-requires-clause-context g c =
    λ κs lives.
    let keys = g.K.KeyFinder.tables c.args.self.now.keys.now in
    let ctx = c.args.context.now in
    let before = (IsPlaced-at ctx.tree c.args.node c.args.parent c.requires.tree c.requires.node c.requires.parent).before in
    let inside : c.args.parent < length ctx.tree = omega (arith, before, c.requires.node) in
    subst (λ (x : Context). IsContext keys x) (sym c.at_node-around.ensures) (moved keys ctx c.args.parent _ _ c.requires.context inside)
