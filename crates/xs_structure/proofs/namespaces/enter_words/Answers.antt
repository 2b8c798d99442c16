use Rattle.std.proofs.Common.{rules, ◌∙◌, ℕ, List, [], ap, sym}
use Rattle.std.specs.Prelude.{◌&&◌, ◌||◌, nat_lt}
use Rattle.std.specs.List.{list_any}
use Rattle.xs_elements.specs.Reading.{means_uri}
use Rattle.xs_elements.specs.WhiteSpace.{words}
use Rattle.xs_structure.proofs.AroundLemmas.{word-more}
use Rattle.xs_structure.specs.InForce.{in_force_at}
use Rattle.xs_structure.proofs.namespaces.enter_words.Goals as goal

pub loop-word-preserved : goal.loop-word-preserved
loop-word-preserved c =
    let means = means_uri c.args.scope.now.pairs.items in
    record {
      same = λ uri k.
          word-more (means uri c.in-Some.word.now) (list_any (means uri) (words c.in-Some.behind.now))
          (nat_lt k c.args.end) (in_force_at c.loop-word.in_force uri [] k) _ (c.in_ok-enter_word.ensures uri k)
          ∙ ap (λ (ws : List (List ℕ)). list_any (means uri) ws && nat_lt k c.args.end || in_force_at c.loop-word.in_force uri [] k)
          (sym c.in-Some.ensures.words)
          ∙ c.loop-word.invariant.same uri k;
      text = search rules;
    }
