use Rattle.std.proofs.Common.{◌≡◌, subst, IfOk, option_map}
use Rattle.xs_xpath.specs.Exprs.{tree_from}
use Rattle.xs_parser.specs.steps.Parts.{ahead_of}
use Rattle.xs_parser.proofs.PathLemmas.{more-in, stop-in, last-in}
use Rattle.xs_parser.proofs.path.path.Goals as goal

pub returns-in-None : goal.returns-in-None
returns-in-None c = record {
  tree = stop-in _ c.loop-part.rest.items c.pop.new.self.items c.pop.result c.in-Some.part (ahead_of c.loop-part.ahead) c.in_ok-front.field-0
      c.loop-part.invariant c.pop.ensures.items c.in-Some.is c.in_ok-front.ensures.ahead c.in-None.is;
}

pub loop-part-preserved : goal.loop-part-preserved
loop-part-preserved c =
    more-in _ c.loop-part.rest.items c.pop.new.self.items c.pop.result c.in-Some.part (ahead_of c.loop-part.ahead) c.in_ok-front.field-0 c.in-Some-2.next
    c.loop-part.invariant c.pop.ensures.items c.in-Some.is c.in_ok-front.ensures.ahead c.in-Some-2.is

pub returns : goal.returns
returns c = record {
  tree = subst (λ all. IfOk c.path_from.result (λ e. option_map tree_from e ≡ all))
      (last-in _ c.loop-part.rest.items _
      (ahead_of c.loop-part.ahead) c.loop-part.invariant c.loop-part.rest.ok.0 c.in_default.ensures.cases.0) c.path_from.ensures.tree;
}
