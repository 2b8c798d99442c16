use Rattle.std.proofs.Common.{◌≡◌, ℕ, ◌+◌, ◌++◌, ◌∷◌, [], Bool, List, arith, ap, map, sym, ◌∙◌}
use Rattle.std.proofs.lemmas.List.FromFn.{map-range_with_len_more}
use Rattle.std.specs.List.{range_with_len}
use Rattle.xs_sheet.specs.declared.declarations.StripRule.{StripRule}
use Rattle.xs_rules.specs.WhiteSpace.{is_stripped, preserves}
use Rattle.xs_rules.proofs.white_space.stripped_flags.Goals as goal

-- one place more
more : (f : ℕ → Bool) (n k : ℕ) (before after : List Bool) (b : Bool) → before ≡ map f (range_with_len 0 n) → after ≡ before ++ b ∷ [] → b ≡ f k → k ≡ n
    → after ≡ map f (range_with_len 0 (n + 1))
more f n k before after b e p q i =
    p
    ∙ ap (λ (l : List Bool). l ++ b ∷ []) e
    ∙ ap (λ (t : Bool). map f (range_with_len 0 n) ++ t ∷ []) (q ∙ ap f i)
    ∙ sym (map-range_with_len_more f 0 n n (omega arith))

pub loop-place-preserved : goal.loop-place-preserved
loop-place-preserved c = record {
  flags =
      more (is_stripped c.args.rules.now c.args.tree.now) c.loop-place.place c.at-node.result c.loop-place.flags.items c.push.new.self.items
      c.is_stripped.result
      c.loop-place.invariant.flags c.in_ok-push.ensures.items
      (c.is_stripped.ensures ∙ ap (λ (rules : List StripRule). is_stripped rules c.args.tree.now c.at-node.result) c.in_ok-index.ensures.rules)
      c.at-node.ensures;
  kept =
      more (preserves c.args.tree.now) c.loop-place.place c.at-node.result c.loop-place.kept.items c.push-in-loop-place.new.self.items c.preserves.result
      c.loop-place.invariant.kept c.in_ok-push-2.ensures.items c.preserves.ensures c.at-node.ensures;
}
