use Rattle.std.proofs.Common.{◌∙◌, rules}
use Rattle.xs_compile.proofs.LabelLemmas.{label-more}
use Rattle.xs_elements.specs.WhiteSpace.{words}
use Rattle.xs_compile.proofs.labels.labels_in.Goals as goal

pub loop-word-preserved : goal.loop-word-preserved
loop-word-preserved c = record {
  same = label-more c.args.scope.now.pairs.items (words c.loop-word.rest.now) (words c.in-Some.behind.now) c.in-Some.word.now c.in_ok-label_in.field-0
      c.loop-word.labels.items c.push_label.new.labels.items c.in-Some.ensures.words c.in_ok-label_in.ensures c.in_ok-push_label.ensures
      ∙ c.loop-word.invariant.same;
  text = search rules;
}
