use Rattle.std.proofs.Common.{◌≡◌, ◌∙◌, ◌++◌, ◌≤◌, List, Some, ap, arith, length, map, option_map, refl, slice_get, subst, sym}
use Rattle.std.proofs.lemmas.List.{length-map, take_all}
use Rattle.std.proofs.lemmas.Option.{slice_get-map, slice_get_read}
use Rattle.xs_xpath.specs.declared.expr.Expr.{Expr}
use Rattle.xs_xpath.specs.Exprs.{tree_from}
use Rattle.xs_xpath.specs.Tree.{Tree}
use Rattle.xs_rules.specs.declared.entries.Entry.{Entry}
use Rattle.xs_rules.specs.Rules.{candidate}
use Rattle.xs_rules.specs.steps.Index.{AreEntries}
use Rattle.xs_rules.proofs.IndexLemmas.{alternative-more}
use Rattle.xs_rules.proofs.entries.add_pattern.Goals as goal

pub loop-place-preserved : goal.loop-place-preserved
loop-place-preserved c = λ ts cs of_number of_pattern i.
    let es : List Expr = c.alternatives-alternatives.result.now in
    let e : Expr = c.index-alternatives-place.result in
    let n : Entry =
    record { template = c.args.number; alternative = c.loop-place.place; rank = c.rank_of-rank.result; is_certain = c.is_certain-is_certain.result } in
    let read : slice_get es c.loop-place.place ≡ Some e =
    slice_get_read es (length es) c.loop-place.place e refl (omega (arith, c.loop-place-test.true)) c.index-alternatives-place.is in
    let of_place : slice_get c.args.pattern.now.pattern c.loop-place.place ≡ Some (tree_from e) =
    subst (λ xs. slice_get xs c.loop-place.place ≡ Some (tree_from e)) c.alternatives-alternatives.ensures
    (slice_get-map tree_from es c.loop-place.place ∙ ap (option_map tree_from) read) in
    alternative-more ts cs c.loop-place.place c.args.template.now c.args.pattern.now (tree_from e) n c.loop-place.entries.items
    c.push.new.self.items (c.loop-place.invariant ts cs of_number of_pattern i) of_number of_pattern of_place refl c.rank_of-rank.ensures
    c.is_certain-is_certain.ensures c.in_ok-push.ensures.items

pub returns : goal.returns
returns c = record {
  entries = λ ts cs of_number of_pattern i.
      let es : List Tree = c.args.pattern.now.pattern in
      let same : length c.alternatives-alternatives.result.now ≡ length es =
      sym (length-map c.alternatives-alternatives.result.now tree_from) ∙ ap length c.alternatives-alternatives.ensures in
      let all : length es ≤ c.loop-place.place = omega (arith, c.loop-place-test.false, same) in
      subst (λ xs. AreEntries ts (cs ++ map (candidate c.args.number c.args.template.now c.args.pattern.now) xs) c.loop-place.entries.items)
      (take_all c.loop-place.place es all)
      (c.loop-place.invariant ts cs of_number of_pattern i);
}
