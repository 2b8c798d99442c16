use Rattle.xs_build.proofs.NamespaceNodeLemmas.{copied_binding}
use Rattle.xs_build.proofs.spaces.put_binding.Goals as goal

pub returns : goal.returns
returns c =
    copied_binding c.args.tree.now c.copy_space.new.tree c.args.element c.args.like c.args.prefix.now c.args.uri.now
    (c.is_space_at.ensures.name c.if-not-is_space_at.false) (c.is_space_at.ensures.text c.if-not-is_space_at.false) c.in_ok-copy_space.ensures
