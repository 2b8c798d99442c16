use Rattle.std.proofs.Common.{◌∙◌, sym, true, false}
use Rattle.xs_compile.proofs.CalledLemmas.{called_as, not_called}
use Rattle.xs_compile.specs.Tables.{place_in}
use Rattle.xs_elements.specs.Nodes.{name_data}
use Rattle.xs_modules.specs.Results.{modules_data}
use Rattle.xs_compile.proofs.counted.called_name.Goals as goal

pub returns-then-is_counted : goal.returns-then-is_counted
returns-then-is_counted c = λ uri local.
    called_as (modules_data c.args.modules.now) (c.args.number, c.args.n) (place_in c.args.found.now) c.requires.templates (uri, local)
    (name_data c.in-Some.name) true (sym c.in-Some.ensures) (sym c.is_counted.ensures ∙ c.if-is_counted.true)

pub returns-else-is_counted : goal.returns-else-is_counted
returns-else-is_counted c = λ uri local.
    called_as (modules_data c.args.modules.now) (c.args.number, c.args.n) (place_in c.args.found.now) c.requires.templates (uri, local)
    (name_data c.in-Some.name) false (sym c.in-Some.ensures) (sym c.is_counted.ensures ∙ c.if-is_counted.false)

pub returns-in-None : goal.returns-in-None
returns-in-None c = λ uri local.
    not_called (modules_data c.args.modules.now) (c.args.number, c.args.n) (place_in c.args.found.now) c.requires.templates (uri, local)
    (sym c.in-None.ensures)
