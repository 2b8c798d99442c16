use Rattle.std.proofs.Common.{◌≡◌, Some, sym, ◌∙◌}
use Rattle.xs_xpath.specs.Tree.{Tree}
use Rattle.xs_parser.specs.Grammar.{same}
use Rattle.xs_parser.proofs.CompleteLemmas.{tree_by-Spells}
use Rattle.xs_parser.proofs.laws.one_tree.Goals as goal

one : (e f : Tree) → Some e ≡ Some f → e ≡ f
one e f h = cc

pub returns : goal.returns
returns c = λ ts e f h k. one e f (sym (tree_by-Spells same ts e h) ∙ tree_by-Spells same ts f k)
