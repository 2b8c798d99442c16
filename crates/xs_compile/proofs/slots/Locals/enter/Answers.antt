use Rattle.std.proofs.Common.{◌∙◌, ◌==◌, ap, Bool, Some}
use Rattle.std.specs.Prelude.{◌&&◌, if◌then◌else◌}
use Rattle.xs_structure.proofs.NameLemmas.{name-sym}
use Rattle.xs_compile.specs.Locals.{entry_in}
use Rattle.xs_elements.specs.Nodes.{name_data}
use Rattle.xs_compile.proofs.slots.Locals.enter.Goals as goal

pub returns : goal.returns
returns c = λ q uri local.
    c.in_ok-insert.ensures.updates.0 (q, (record { ref_ptr = (0, 0); now = uri }, record { ref_ptr = (0, 0); now = local }))
    ∙ ap (λ (b : Bool). if c.args.parent == q && b then Some c.args.entry else entry_in c.args.self.now q uri local)
    (name-sym (name_data c.args.name) (uri, local))
