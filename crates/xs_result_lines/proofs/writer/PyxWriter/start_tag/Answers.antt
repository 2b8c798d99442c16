use Rattle.std.proofs.Common.{◌∙◌, ap, rules}
use Rattle.xs_result_lines.specs.Lines.{name_with}
use Rattle.xs_result_lines.proofs.OpenLemmas.{tag_is}
use Rattle.xs_result_lines.proofs.writer.PyxWriter.start_tag.Goals as goal

pub returns : goal.returns
returns c =
    tag_is (record { declared = c.in_ok-declared.declared; lines = c.append-2.new.self }) c.args.self.now c.args.name.now
    c.args.behind.now c.in_ok-bindings.bindings c.in_ok-bindings-2.field-0.bindings c.in_ok-name.name c.push.new.self.items
    c.in_ok-declarations.declarations.items c.append.new.self.items c.in_ok-bindings-2.field-0.lines.items
    c.in_ok-bindings.ensures (search rules) (search rules)
    (c.in_ok-name.ensures ∙ ap (λ p. name_with p c.local.result.now) c.prefix.ensures.text
    ∙ ap (name_with c.args.name.now.prefix) c.local.ensures.text)
    c.in_ok-declared.ensures (search rules) (search rules) (search rules)
    (search rules)
