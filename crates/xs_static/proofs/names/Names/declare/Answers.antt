use Rattle.std.proofs.Common.{◌∙◌, ap, sym, List, [], Option}
use Rattle.std.specs.Option.{option_map_or}
use Rattle.xs_elements.specs.Nodes.{own_name}
use Rattle.xs_elements.specs.Tags.{is_template, is_variable, tag_of}
use Rattle.xs_modules.specs.Numbering.{ModuleData}
use Rattle.xs_modules.specs.Results.{module_data, modules_data}
use Rattle.xs_static.proofs.DeclaredLemmas.{answer-as, line-of, met-names, module-of, noted, noted-as}
use Rattle.xs_tree.specs.Record.{Record}
use Rattle.xs_static.proofs.names.Names.declare.Goals as goal

pub returns-clause-names : goal.returns-clause-names
returns-clause-names c = λ done declared.
    let ms = modules_data c.args.modules.now in
    let n = c.args.element in
    let m = c.index-module.result.now in
    let found = module-of c.args.modules.now.list.items c.args.number m c.requires.inside.«module» c.index-module.ensures in
    let records = sym (ap (λ (o : Option ModuleData). option_map_or (λ d. d.records) o []) found) in
    let tag = c.tag_of-tag.ensures.tag ∙ ap (λ (r : List Record). tag_of r n) records in
    let rank = sym (ap (λ (o : Option ModuleData). option_map_or (λ d. d.rank.precedence) o 0) found) in
    let name = c.own_name-name.ensures ∙ ap (λ (r : List Record). own_name r n) records in
    record {
      globals = noted is_variable ms done (c.args.number, n) c.args.self.now.globals c.note.new.self declared.globals
          (noted-as c.args.self.now.globals c.note.new.self _ _ _ _ _ _ (c.is_variable.ensures ∙ ap is_variable tag) rank name c.in_ok-is_double.ensures.noted);
      templates = noted is_template ms done (c.args.number, n) c.args.self.now.templates c.note-2.new.self declared.templates
          (noted-as c.args.self.now.templates c.note-2.new.self _ _ _ _ _ _ (c.is_template.ensures ∙ ap is_template tag) rank name
          c.in_ok-is_again.ensures.noted);
    }

pub returns-clause-faults : goal.returns-clause-faults
returns-clause-faults c = λ done declared.
    let ms = modules_data c.args.modules.now in
    let n = c.args.element in
    let m = c.index-module.result.now in
    let found = module-of c.args.modules.now.list.items c.args.number m c.requires.inside.«module» c.index-module.ensures in
    let records = sym (ap (λ (o : Option ModuleData). option_map_or (λ d. d.records) o []) found) in
    let tag = c.tag_of-tag.ensures.tag ∙ ap (λ (r : List Record). tag_of r n) records in
    let rank = sym (ap (λ (o : Option ModuleData). option_map_or (λ d. d.rank.precedence) o 0) found) in
    let name = c.own_name-name.ensures ∙ ap (λ (r : List Record). own_name r n) records in
    met-names ms done (c.args.number, n) c.args.self.now c.args.least.now.fault c.meet_where.new.self.fault c.meet_where-2.new.self.fault
    c.in_ok-is_double.is_double
    c.in_ok-is_again.is_again _ declared
    (line-of ms c.args.number n c.place.result c.index-line.result.now (module_data m) c.requires.lines found c.requires.inside.node c.place.ensures
    c.index-line.ensures)
    (answer-as c.args.self.now.globals _ _ _ _ _ _ _ (c.is_variable.ensures ∙ ap is_variable tag) rank name c.in_ok-is_double.ensures.answer)
    (answer-as c.args.self.now.templates _ _ _ _ _ _ _ (c.is_template.ensures ∙ ap is_template tag) rank name c.in_ok-is_again.ensures.answer)
    c.meet_where.ensures c.meet_where-2.ensures
