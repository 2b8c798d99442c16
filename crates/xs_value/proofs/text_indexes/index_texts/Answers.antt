use Rattle.std.proofs.Common.{◌∙◌, ◌++◌, ◌∷◌, [], ℕ, List, ap, arith, take}
use Rattle.std.proofs.lemmas.List.{take_all}
use Rattle.std.specs.Cow.{cow_str_bytes}
use Rattle.std.specs.List.{list_any}
use Rattle.std.specs.Str.{bytes_eq}
use Rattle.std.specs.declared.borrow.CowStr.TheVariants.{Borrowed}
use Rattle.xs_value.specs.TextIndexes.{is_indexed}
use Rattle.xs_value.specs.steps.Operands.{node_texts}
use Rattle.xs_value.proofs.IndexLemmas.{index-more, texts-more}
use Rattle.xs_value.proofs.text_indexes.index_texts.Goals as goal

-- a string is in the new index where it is in the old one or is the one that was inserted
pub loop-node-preserved : goal.loop-node-preserved
loop-node-preserved c = λ q.
    let done = node_texts c.args.tree.now (take c.loop-node.node-index c.args.nodes.now) in
    let up = (c.in_ok-insert.ensures.updates).0 (Borrowed (record { ref_ptr = (0, 0); now = q })) in
    index-more q (cow_str_bytes c.in_ok-text.text) done (is_indexed c.loop-node.index.keys q) (is_indexed c.insert.new.self.keys q) up (c.loop-node.invariant q)
    ∙ ap (λ (t : List ℕ). list_any (bytes_eq q) (done ++ t ∷ [])) c.in_ok-text.ensures.text
    ∙ ap (list_any (bytes_eq q)) (texts-more c.args.tree.now c.args.nodes.now c.loop-node.node-index c.node-item.result (omega arith) c.node-item.is)

pub returns : goal.returns
returns c = record {
  texts = λ q. c.loop-node.invariant q
      ∙ ap (λ (ns : List ℕ). list_any (bytes_eq q) (node_texts c.args.tree.now ns)) (take_all c.loop-node.node-index c.args.nodes.now (omega arith));
}
