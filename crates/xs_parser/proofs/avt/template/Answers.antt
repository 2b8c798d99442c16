use Rattle.std.proofs.Common.{◌≡◌, Some, arith, rules, length, ◌∙◌, sym, refl}
use Rattle.xs_xpath.specs.AvtParts.{parts_from}
use Rattle.xs_parser.specs.steps.SoFar.{part_answer, so_far}
use Rattle.xs_parser.specs.Templates.{piece_at}
use Rattle.xs_parser.proofs.AvtLemmas.{start-in, stop-in, step-in, shorter, end-in}
use Rattle.xs_parser.proofs.LexLemmas.{not-empty, is-empty}
use Rattle.xs_parser.proofs.avt.template.Goals as goal

pub pieces-init : goal.pieces-init
pieces-init c = record {
  same = start-in c.args.scope.now.pairs.items c.args.text.now _ (first_of (cc, search rules));
  within = omega arith;
  text = search rules;
}

pub returns-in-None : goal.returns-in-None
returns-in-None c =
    let l = c.pieces in record {
      answer = stop-in c.args.scope.now.pairs.items (length c.args.text.now) _ (so_far l.so_far) l.rest.now l.invariant.same
          (not-empty _ c.pieces-test.ensures) (sym c.in-None.ensures.piece);
    }

pub pieces-smaller : goal.pieces-smaller
pieces-smaller c =
    shorter c.pieces.rest.now c.in-Some.written c.in-Some.inner.now c.in-Some.behind.now (not-empty _ c.pieces-test.ensures) (sym c.in-Some.ensures.piece)

pub pieces-preserved : goal.pieces-preserved
pieces-preserved c =
    let l = c.pieces in
    let is : piece_at l.rest.now ≡ Some (c.in-Some.written, c.in-Some.inner.now, c.in-Some.behind.now) = sym c.in-Some.ensures.piece in
    let some = not-empty _ c.pieces-test.ensures in record {
      same =
          step-in c.args.scope.now.pairs.items (length c.args.text.now) _ _ l.so_far.fault
          (parts_from l.so_far.parts.items) l.rest.now c.in-Some.written c.in-Some.inner.now c.in-Some.behind.now
          (part_answer c.in_ok-part-in-Some.part)
          (so_far c.in_ok-next-in-Some.next) l.invariant.same l.invariant.within some is refl
          c.in_ok-part-in-Some.ensures.part c.in_ok-next-in-Some.ensures.so_far;
      within = omega (arith, shorter l.rest.now c.in-Some.written c.in-Some.inner.now c.in-Some.behind.now some is, l.invariant.within);
      text = search rules;
    }

pub returns : goal.returns
returns c =
    let l = c.pieces in record {
      answer = c.outcome.ensures.outcome ∙ end-in c.args.scope.now.pairs.items (length c.args.text.now) _ (so_far l.so_far) l.rest.now l.invariant.same
          (is-empty _ c.pieces-test.ensures);
    }
