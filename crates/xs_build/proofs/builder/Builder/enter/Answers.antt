use Rattle.std.proofs.Common.{◌≡◌, ◌∙◌, ap, reverse}
use Rattle.xs_build.specs.steps.Lines.{innermost}
use Rattle.xs_build.specs.steps.Names.{full_name}
use Rattle.xs_build.specs.steps.State.{State, state}
use Rattle.xs_build.proofs.ElementLemmas.{entered_is, opened_last}
use Rattle.xs_build.proofs.NameLemmas.{full_behind, named_behind}
use Rattle.xs_build.proofs.builder.Builder.enter.Goals as goal

pub put_element-requires-clause-named : goal.put_element-requires-clause-named
put_element-requires-clause-named c =
    rw (ap (λ (s : State). s.records) c.in_ok-end_text.ensures.ended)
    (named_behind c.args.self.now.tree (innermost (reverse c.args.self.now.around.items)) c.args.self.now.text c.args.full c.requires.named)

pub returns : goal.returns
returns c =
    let tree = c.end_text.new.self.tree in
    let full_is : full_name tree c.args.full ≡ full_name c.args.self.now.tree c.args.full =
    ap (λ (s : State). full_name s.records c.args.full) c.in_ok-end_text.ensures.ended
    ∙ full_behind c.args.self.now.tree (innermost (reverse c.args.self.now.around.items)) c.args.self.now.text c.args.full
    c.requires.named in
    record {
      entered = entered_is (state c.args.self.now) c.args.name (full_name c.args.self.now.tree c.args.full) c.args.scope
          (state c.end_text.new.self) c.in_ok-node.node c.len.result c.put_element.new.tree c.push.new.self.items c.push_lines.new.lines.items
          (reverse c.push-2.new.self.items) c.clear.new.self
          c.requires.good c.in_ok-end_text.ensures.ended
          (rw (← full_is) (rw c.as_slice-around.ensures.value at c.in_ok-node.ensures.put)) c.in_ok-node.ensures.node
          c.in_ok-push.ensures.items c.in_ok-push_lines.ensures c.len.ensures.count
          (opened_last c.end_text.new.self.around.items c.push-2.new.self.items (record {
            name = c.args.name;
            node = c.in_ok-node.node;
            scope = c.args.scope;
          }) c.in_ok-push-2.ensures.items)
          c.clear.ensures;
    }
