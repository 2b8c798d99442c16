use Rattle.std.proofs.Common.{ℕ, List, [], ◌∷◌, ap, sym, ◌∙◌, ◌++◌, append_assoc, filter, map, Option}
use Rattle.xs_elements.specs.Contents.{before_of}
use Rattle.xs_static.proofs.ContentLemmas.{before_is_done}
use Rattle.xs_static.proofs.MeetLemmas.{met_next}
use Rattle.xs_static.specs.declared.fault.StaticFault.{StaticFault}
use Rattle.xs_static.specs.steps.Elements.{records_of}
use Rattle.xs_static.specs.steps.Least.{fault_where, least_of}
use Rattle.xs_static.specs.steps.Misplaced.{is_refused, misplaced_fault}
use Rattle.xs_tree.proofs.WalkLemmas.{child-within}
use Rattle.xs_static.proofs.element.Element.meet_refused.Goals as goal

-- the child that comes next is in the tree
pub tag_of-tag-requires : goal.tag_of-tag-requires
tag_of-tag-requires c =
    child-within (records_of c.args.self.now) c.args.self.now.node c.loop-child.yielded c.next.new.self c.in-Some.child
    (sym c.loop-child.invariant.2 ∙ ap (λ xs. c.loop-child.yielded ++ xs) c.in-Some.ensures.steps)

pub is_refused-is_refused-requires-clause-inside : goal.is_refused-is_refused-requires-clause-inside
is_refused-is_refused-requires-clause-inside c =
    child-within (records_of c.args.self.now) c.args.self.now.node c.loop-child.yielded c.next.new.self c.in-Some.child
    (sym c.loop-child.invariant.2 ∙ ap (λ xs. c.loop-child.yielded ++ xs) c.in-Some.ensures.steps)

-- what was passed stands before it
pub is_refused-is_refused-requires-clause-before : goal.is_refused-is_refused-requires-clause-before
is_refused-is_refused-requires-clause-before c =
    c.loop-child.invariant.3
    ∙ ap before_of (before_is_done (records_of c.args.self.now) c.args.self.now.node c.loop-child.yielded c.next.new.self c.in-Some.child
    (sym c.loop-child.invariant.2 ∙ ap (λ xs. c.loop-child.yielded ++ xs) c.in-Some.ensures.steps))

pub with_child-before-requires-clause-inside : goal.with_child-before-requires-clause-inside
with_child-before-requires-clause-inside c =
    child-within (records_of c.args.self.now) c.args.self.now.node c.loop-child.yielded c.next.new.self c.in-Some.child
    (sym c.loop-child.invariant.2 ∙ ap (λ xs. c.loop-child.yielded ++ xs) c.in-Some.ensures.steps)

-- one more is met where it is refused
pub loop-child-preserved : goal.loop-child-preserved
loop-child-preserved c =
    let rs = records_of c.args.self.now in
    let n = c.args.self.now.node in
    let m = c.args.module in
    let lines = c.args.lines.now in
    let least = c.loop-child.least.fault in
    let behind = c.next.new.self in (
      tt,
      tt,
      append_assoc c.loop-child.yielded (c.in-Some.child ∷ []) behind
          ∙ ap (λ (xs : List ℕ). c.loop-child.yielded ++ xs) (sym c.in-Some.ensures.steps)
          ∙ c.loop-child.invariant.2,
      c.with_child-before.ensures c.loop-child.yielded c.loop-child.invariant.3,
      ap (λ (o : Option StaticFault). least_of o (map (misplaced_fault m lines) (filter (is_refused rs n) behind)))
          (c.meet_where.ensures
          ∙ ap (λ (line : ℕ). least_of least (fault_where c.is_refused-is_refused.result m line 37)) c.line_of.ensures)
          ∙ met_next m lines (is_refused rs n) c.in-Some.child behind least c.is_refused-is_refused.result c.is_refused-is_refused.ensures
          ∙ ap (λ (xs : List ℕ). least_of least (map (misplaced_fault m lines) (filter (is_refused rs n) xs))) (sym c.in-Some.ensures.steps)
          ∙ c.loop-child.invariant.4,
    )

-- nothing is left
pub returns : goal.returns
unfolding least_of
returns c =
    ap (λ (xs : List ℕ). least_of c.loop-child.least.fault
    (map (misplaced_fault c.args.module c.args.lines.now) (filter (is_refused (records_of c.args.self.now) c.args.self.now.node) xs)))
    (sym c.in-None.ensures.steps.0)
    ∙ c.loop-child.invariant.4
