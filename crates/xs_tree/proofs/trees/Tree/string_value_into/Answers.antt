-- The texts inside a root or an element are its string value.
use Rattle.std.proofs.Common.{◌≡◌, ◌∙◌, sym, true}
use Rattle.xs_tree.specs.Kinds.{has_content}
use Rattle.xs_tree.specs.Record.{at, string_value}
use Rattle.xs_tree.proofs.Utf8Lemmas.{IsUtf8-appended, IsUtf8-extended, IsUtf8-string_value}
use Rattle.xs_tree.proofs.WalkLemmas.{string_value-content}
use Rattle.xs_tree.proofs.trees.Tree.string_value_into.Goals as goal

pub returns-then-has_content-clause-appended : goal.returns-then-has_content-clause-appended
returns-then-has_content-clause-appended c =
    let content : has_content (at c.args.self.now c.args.n).kind ≡ true = rw (← c.kind.ensures.kind) (sym c.has_content.ensures ∙ c.if-has_content.true) in
    rw (string_value-content c.args.self.now c.args.n c.texts_into.ensures.tree c.requires content) c.texts_into.ensures.appended

pub returns-then-has_content-clause-utf8 : goal.returns-then-has_content-clause-utf8
returns-then-has_content-clause-utf8 c =
    IsUtf8-appended c.texts_into.result c.args.out.now.items c.texts_into.new.out.items (string_value c.args.self.now c.args.n)
    (returns-then-has_content-clause-appended c) c.texts_into.ensures.refused (IsUtf8-string_value c.args.self.now c.args.n c.texts_are_utf8.ensures)

pub returns-else-has_content-clause-utf8 : goal.returns-else-has_content-clause-utf8
returns-else-has_content-clause-utf8 c =
    IsUtf8-extended _ c.args.out.now.items c.extend_from_slice.new.self.items c.as_bytes.result.now c.extend_from_slice.ensures.items c.as_bytes.ensures.utf8
