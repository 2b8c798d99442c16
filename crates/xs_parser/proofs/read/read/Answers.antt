use Rattle.std.proofs.Common.{◌≡◌, ◌∙◌, ap, subst, IfOk, option_map}
use Rattle.std.specs.Vec.Iter.{into_iter_items}
use Rattle.xs_xpath.specs.Exprs.{tree_from}
use Rattle.xs_parser.specs.steps.Parts.{parts_of}
use Rattle.xs_parser.specs.Reading.{expr}
use Rattle.xs_parser.specs.steps.States.{kept, state_of}
use Rattle.xs_parser.proofs.ReadLemmas.{start, stop, more, unended, last, empty}
use Rattle.xs_parser.proofs.read.read.Goals as goal

pub loop-token-init : goal.loop-token-init
loop-token-init c =
    start (kept c.args.is_deep) c.args.tokens.items (into_iter_items c.into_iter-rest.result) c.new.result.items
    (parts_of c.new-2.result.items) c.into_iter-rest.ensures.rest c.new.ensures.items (ap parts_of c.new-2.ensures.items)

pub returns-in-None : goal.returns-in-None
returns-in-None c = record {
  tree =
      stop (expr (kept c.args.is_deep)) _ (into_iter_items c.loop-token.rest) (into_iter_items c.next.new.self) c.in-Some.token
      (state_of c.loop-token.now) c.in_ok-take.field-0
      c.loop-token.invariant c.in-Some.ensures.items c.in_ok-take.ensures.state c.in-None.is;
}

pub loop-token-preserved : goal.loop-token-preserved
loop-token-preserved c =
    more (expr (kept c.args.is_deep)) _ (into_iter_items c.loop-token.rest) (into_iter_items c.next.new.self) c.in-Some.token
    (state_of c.loop-token.now) c.in_ok-take.field-0 c.in-Some-2.next
    c.loop-token.invariant c.in-Some.ensures.items c.in_ok-take.ensures.state c.in-Some-2.is

pub returns-then-len-ne0 : goal.returns-then-len-ne0
returns-then-len-ne0 c = record {
  tree =
      unended (expr (kept c.args.is_deep)) _ c.len.result (into_iter_items c.loop-token.rest) c.loop-token.now.frames.items
      (parts_of c.loop-token.now.parts.items)
      c.loop-token.invariant (empty _ _ c.loop-token.rest.rest.ok.0 c.in_default.ensures.cases.0)
      (c.len.ensures ∙ c.loop-token.now.frames.ok.0) c.if-len-ne0.true;
}

pub returns : goal.returns
returns c = record {
  tree =
      subst (λ all. IfOk c.inner.result (λ e. option_map tree_from e ≡ all))
      (last (expr (kept c.args.is_deep)) _ c.len.result (into_iter_items c.loop-token.rest) c.loop-token.now.frames.items
      (parts_of c.loop-token.now.parts.items)
      c.loop-token.invariant (empty _ _ c.loop-token.rest.rest.ok.0 c.in_default.ensures.cases.0)
      (c.len.ensures ∙ c.loop-token.now.frames.ok.0) c.if-len-ne0.false) c.inner.ensures.tree;
}
