use Rattle.xs_tree.proofs.StrippingLawLemmas as law
use Rattle.xs_tree.proofs.laws.stripping_keeps_nodes.Goals as goal

pub returns : goal.returns
returns c = record {
  children = law.children_kept;
  attributes = law.attributes_kept;
  namespaces = law.namespaces_kept;
  texts = law.texts_kept;
}
