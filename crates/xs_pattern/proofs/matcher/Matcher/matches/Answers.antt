use Rattle.std.proofs.Common.{List, arith, ap, get_or, length, ◌∙◌, ◌≡◌}
use Rattle.xs_xpath.specs.declared.expr.Expr.{Expr}
use Rattle.xs_pattern.proofs.AlternativeLemmas.{from-end, from-false, from-true}
use Rattle.xs_pattern.proofs.matcher.Matcher.matches.Goals as goal

pub returns-then-branch : goal.returns-then-branch
returns-then-branch g c =
    let es = c.args.pattern.now.alternatives.items in
    let k = c.loop-alternative.alternative-index in
    let e = c.alternative-item.result in
    let n : length c.deref-alternative-items.result.now ≡ length es = ap (λ (l : List Expr). length l) c.deref-alternative-items.ensures.value in
    record {
      matches =
          from-true (g.K.KeyFinder.tables c.args.self.now.keys.now) c.args.self.now.tree.now c.args.scope.now.pairs.items es c.args.node k e
          c.in_ok-matches_path.field-0 _
          (omega (arith, n)) (c.alternative-item.is ∙ ap (λ (l : List Expr). get_or l k e) c.deref-alternative-items.ensures.value)
          c.in_ok-matches_path.ensures.matches c.if-branch.true c.loop-alternative.invariant;
    }

pub loop-alternative-preserved : goal.loop-alternative-preserved
loop-alternative-preserved g c =
    let es = c.args.pattern.now.alternatives.items in
    let k = c.loop-alternative.alternative-index in
    let e = c.alternative-item.result in
    let n : length c.deref-alternative-items.result.now ≡ length es = ap (λ (l : List Expr). length l) c.deref-alternative-items.ensures.value in
    from-false (g.K.KeyFinder.tables c.args.self.now.keys.now) c.args.self.now.tree.now c.args.scope.now.pairs.items es c.args.node k e
    c.in_ok-matches_path.field-0 _
    (omega (arith, n)) (c.alternative-item.is ∙ ap (λ (l : List Expr). get_or l k e) c.deref-alternative-items.ensures.value)
    c.in_ok-matches_path.ensures.matches c.if-branch.false c.loop-alternative.invariant

pub returns : goal.returns
returns g c =
    let es = c.args.pattern.now.alternatives.items in
    let n : length c.deref-alternative-items.result.now ≡ length es = ap (λ (l : List Expr). length l) c.deref-alternative-items.ensures.value in
    record {
      matches =
          from-end (g.K.KeyFinder.tables c.args.self.now.keys.now) c.args.self.now.tree.now c.args.scope.now.pairs.items es c.args.node
          c.loop-alternative.alternative-index _
          (omega (arith, n)) c.loop-alternative.invariant;
    }
