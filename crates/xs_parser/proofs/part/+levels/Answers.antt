use Rattle.std.proofs.Common.{◌≡◌, ap, sym, ◌∙◌, subst, option_map, IfOk, Some, arith}
use Rattle.std.specs.Vec.Iter.{into_iter_items}
use Rattle.xs_xpath.specs.Exprs.{tree_from}
use Rattle.xs_parser.specs.steps.Cuttings.{cutting_of}
use Rattle.xs_parser.specs.steps.Parts.{signs_in, parts_of}
use Rattle.xs_parser.specs.Reading.{negated}
use Rattle.xs_parser.proofs.LevelLemmas.{level-zero, start-in, more-in, stop-in, last-in, operand-in, empty}
use Rattle.xs_parser.proofs.part.+levels.Goals as goal

pub level-returns-then-n-eq0 : goal.level-returns-then-n-eq0
level-returns-then-n-eq0 t c =
    record { tree = subst (λ all. IfOk c.path.result (λ e. option_map tree_from e ≡ all)) (level-zero c.args.n _ c.if-n-eq0.true) c.path.ensures.tree }

pub level-loop-part-init : goal.level-loop-part-init
level-loop-part-init t c =
    start-in c.args.n c.args.parts.items c.new-3.result.items (into_iter_items c.into_iter-rest.result) c.new.result.items c.new-2.result.items
    (omega (arith, c.if-n-eq0.false)) c.new.ensures.items c.new-2.ensures.items c.new-3.ensures.items c.into_iter-rest.ensures.rest

pub level-loop-part-preserved : goal.level-loop-part-preserved
level-loop-part-preserved t c =
    more-in _ c.args.n (cutting_of c.loop-part.now) (into_iter_items c.loop-part.rest)
    (into_iter_items c.next.new.self) c.in-Some.part c.in_ok-behind_part.field-0 c.in-Some-2.next
    c.loop-part.invariant (omega (arith, c.if-n-eq0.false)) c.in-Some.ensures.items c.in_ok-behind_part.ensures.cutting c.in-Some-2.is

pub level-returns-in-None : goal.level-returns-in-None
level-returns-in-None t c = record {
  tree =
      stop-in _ c.args.n (cutting_of c.loop-part.now) (into_iter_items c.loop-part.rest)
      (into_iter_items c.next.new.self) c.in-Some.part c.in_ok-behind_part.field-0
      c.loop-part.invariant (omega (arith, c.if-n-eq0.false)) c.in-Some.ensures.items c.in_ok-behind_part.ensures.cutting c.in-None.is;
}

pub level-returns : goal.level-returns
level-returns t c = record {
  tree = subst (λ all. IfOk c.gather_all.result (λ e. option_map tree_from e ≡ all))
      (last-in _ c.args.n (cutting_of c.loop-part.now) (into_iter_items c.loop-part.rest) c.loop-part.invariant
      (empty _ _ c.loop-part.rest.rest.ok.0 c.in_default.ensures.cases.0)) c.gather_all.ensures.tree;
}

pub operand-returns-in-None : goal.operand-returns-in-None
operand-returns-in-None t c = record {
  tree =
      sym (operand-in c.args.n c.minus_signs-signs.result c.args.parts.items c.in_ok-behind.behind.items c.in_ok-level.field-0 c.if-n-ne1.false
      (c.minus_signs-signs.ensures.signs ∙ ap (λ ps. signs_in (parts_of ps)) c.deref.ensures.value) c.in_ok-behind.ensures.tail c.in_ok-level.ensures.tree
      ∙ ap (option_map (λ e. negated c.minus_signs-signs.result (tree_from e))) c.in-None.is);
}

pub operand-returns : goal.operand-returns
operand-returns t c = record {
  tree =
      ap Some c.in_ok-negated-in-Some.ensures.tree
      ∙ sym (operand-in c.args.n c.minus_signs-signs.result c.args.parts.items c.in_ok-behind.behind.items c.in_ok-level.field-0 c.if-n-ne1.false
      (c.minus_signs-signs.ensures.signs ∙ ap (λ ps. signs_in (parts_of ps)) c.deref.ensures.value) c.in_ok-behind.ensures.tail c.in_ok-level.ensures.tree
      ∙ ap (option_map (λ e. negated c.minus_signs-signs.result (tree_from e))) c.in-Some.is);
}
