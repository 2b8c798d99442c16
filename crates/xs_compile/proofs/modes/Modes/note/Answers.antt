use Rattle.std.proofs.Common.{◌∙◌, ap, sym, Option}
use Rattle.std.specs.Prelude.{option_map}
use Rattle.xs_compile.proofs.ModeLemmas.{mode_gained, mode_noted, mode_same}
use Rattle.xs_compile.specs.Modes.{has_mode, modes_in, with_mode}
use Rattle.xs_elements.specs.Nodes.{Name, is_same_name, name_data}
use Rattle.xs_compile.proofs.modes.Modes.note.Goals as goal

pub returns-in_ok-insert-clause-noted : goal.returns-in_ok-insert-clause-noted
returns-in_ok-insert-clause-noted c =
    let name = name_data c.in-Some.name in
    ap (λ (o : Option Name). has_mode (record { names = c.insert.new.self }) o) (ap (option_map name_data) c.in-Some.is)
    ∙ mode_noted name_data (is_same_name name) c.in-Some.name c.args.self.now.names.keys c.insert.new.self.keys (mode_same name)
    c.in_ok-insert.ensures.keys

pub returns-in_ok-insert-clause-order : goal.returns-in_ok-insert-clause-order
returns-in_ok-insert-clause-order c =
    let name = name_data c.in-Some.name in
    mode_gained name_data (is_same_name name) c.in-Some.name c.args.self.now.names.keys c.insert.new.self.keys c.in_ok-insert.ensures.keys
    ∙ ap (λ (o : Option Name). with_mode (modes_in c.args.self.now) o) (ap (option_map name_data) (sym c.in-Some.is))
