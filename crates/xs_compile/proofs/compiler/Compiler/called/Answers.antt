use Rattle.std.proofs.Common.{◌∙◌, ap, sym}
use Rattle.std.specs.Prelude.{option_map}
use Rattle.xs_compile.proofs.CallLemmas.{call-known, call-named}
use Rattle.xs_elements.specs.Nodes.{name_data}
use Rattle.xs_compile.proofs.compiler.Compiler.called.Goals as goal

-- the template is there
pub unreachable-requires : goal.unreachable-requires
unreachable-requires c =
    call-known c.args.self.now (c.args.number, c.args.n) c.requires.ready c.requires.tag c.in-Some.uri.now c.in-Some.local.now
    (sym (ap (option_map name_data) (sym c.in-Some.is) ∙ c.name_at.ensures)) (sym c.get.ensures ∙ c.in-None-get.is)

-- and it is named
pub unreachable-requires-in-None : goal.unreachable-requires-in-None
unreachable-requires-in-None c =
    call-named c.args.self.now (c.args.number, c.args.n) c.requires.ready c.requires.tag
    (sym (ap (option_map name_data) (sym c.in-None.is) ∙ c.name_at.ensures))
