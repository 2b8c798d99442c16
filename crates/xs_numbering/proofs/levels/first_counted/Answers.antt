use Rattle.std.proofs.Common.{[], ◌∷◌, ◌++◌, append_assoc, sym, ap, ◌∙◌}
use Rattle.xs_numbering.specs.Counting.{counted}
use Rattle.xs_numbering.specs.Passes.{is_flagged}
use Rattle.xs_numbering.proofs.LevelLemmas.{ancestor-within, first-found, first-later}
use Rattle.xs_numbering.proofs.levels.first_counted.Goals as goal

pub returns-then-is_flagged-3 : goal.returns-then-is_flagged-3
returns-then-is_flagged-3 c =
    let counts = is_flagged c.args.counts.now in
    let from = is_flagged c.args.from.now in
    let found = sym c.is_flagged-in-loop-ancestor-2.ensures ∙ c.if-is_flagged-3.true in (
      first-found counts from c.in-Some.ancestor (counted counts from c.args.tree.now c.args.node) c.loop-ancestor.ancestor-iterator
          c.next.new.self (sym c.is_flagged-in-loop-ancestor.ensures ∙ c.if-is_flagged-2.false) found c.in-Some.ensures.steps
          c.loop-ancestor.invariant.none,
      found,
      ancestor-within c.args.tree.now c.args.node c.loop-ancestor.yielded c.next.new.self c.in-Some.ancestor
          (sym (ap (λ xs. c.loop-ancestor.yielded ++ xs) c.in-Some.ensures.steps) ∙ c.loop-ancestor.invariant.nodes),
    )

pub loop-ancestor-preserved : goal.loop-ancestor-preserved
loop-ancestor-preserved c =
    let counts = is_flagged c.args.counts.now in
    let from = is_flagged c.args.from.now in
    record {
      can = tt;
      ends = tt;
      nodes =
          append_assoc c.loop-ancestor.yielded (c.in-Some.ancestor ∷ []) c.next.new.self
          ∙ sym (ap (λ xs. c.loop-ancestor.yielded ++ xs) c.in-Some.ensures.steps) ∙ c.loop-ancestor.invariant.nodes;
      none =
          first-later counts from c.in-Some.ancestor (counted counts from c.args.tree.now c.args.node) c.loop-ancestor.ancestor-iterator
          c.next.new.self (sym c.is_flagged-in-loop-ancestor.ensures ∙ c.if-is_flagged-2.false)
          (sym c.is_flagged-in-loop-ancestor-2.ensures ∙ c.if-is_flagged-3.false) c.in-Some.ensures.steps c.loop-ancestor.invariant.none;
    }
