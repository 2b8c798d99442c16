use Rattle.std.proofs.Common.{[], ◌∷◌, ◌∙◌, ap, map}
use Rattle.std.proofs.lemmas.Result.{err_from_is_err_and}
use Rattle.xs_modules.specs.Mentions.{named_by_words}
use Rattle.xs_modules.specs.steps.Views.{imports_data, mention_data, sheet_data, sheets_data}
use Rattle.xs_modules.proofs.OutcomeLemmas.{out_here, out_last}
use Rattle.xs_modules.proofs.WholeLemmas.{few_enough, first_comes, first_few, first_sheets}
use Rattle.xs_modules.proofs.reading.read_all.Goals as goal

pub returns-in_err-mention-clause-modules : goal.returns-in_err-mention-clause-modules
returns-in_err-mention-clause-modules g c =
    let p = err_from_is_err_and c.from_residual.result c.from_residual.ensures.1 in
    rw (p.1, p.2) (out_here (g.L.Library.files c.args.library.now) [] 0 (named_by_words c.args.name.now ∷ []) (g.L.Library.asked c.args.library.now)
    (g.L.Library.failed c.args.library.now))

pub returns-in_err-sheets-clause-modules : goal.returns-in_err-sheets-clause-modules
returns-in_err-sheets-clause-modules g c =
    let p = err_from_is_err_and c.from_residual-in_err-sheets.result c.from_residual-in_err-sheets.ensures.1 in
    let r = c.in_ok-read_mention.ensures.reads in
    rw (p.1, p.2) (out_last (g.L.Library.files c.args.library.now) [] 0 (named_by_words c.args.name.now ∷ []) r.0 (g.L.Library.asked c.args.library.now)
    (g.L.Library.asked c.read_mention.new.library) (g.L.Library.failed c.args.library.now) (g.L.Library.failed c.read_mention.new.library)
    (first_comes c.new-reader.result c.new-reader.ensures.path c.new-reader.ensures.parts (g.L.Library.files c.args.library.now)
    (mention_data c.in_ok-mention.mention) c.args.name.now (g.L.Library.asked c.args.library.now) (g.L.Library.asked c.read_mention.new.library)
    (g.L.Library.failed c.args.library.now) (g.L.Library.failed c.read_mention.new.library) c.in_ok-mention.ensures r.1))

pub ranked-requires : goal.ranked-requires
ranked-requires g c =
    let r = c.in_ok-read_mention.ensures.reads in
    let first = c.new-reader.result in
    few_enough sheet_data r.0 c.as_slice.result.now
    (ap (map sheet_data) c.as_slice.ensures.value
    ∙ first_sheets first c.new-reader.ensures.path c.new-reader.ensures.parts c.read_mention.new.self (imports_data c.new-imports.result)
    (imports_data c.read_mention.new.imports) r.0 r.2 c.new-imports.ensures (sheets_data c.in_ok-sheets.sheets.items) c.in_ok-sheets.ensures)
    (first_few first c.new-reader.ensures.path c.new-reader.ensures.parts c.read_mention.new.self (imports_data c.new-imports.result)
    (imports_data c.read_mention.new.imports) r.0 r.2 c.new-imports.ensures)

pub returns-in_err-list-clause-modules : goal.returns-in_err-list-clause-modules
returns-in_err-list-clause-modules g c =
    let p = err_from_is_err_and c.from_residual-in_err-list.result c.from_residual-in_err-list.ensures.1 in
    let r = c.in_ok-read_mention.ensures.reads in
    rw (p.1, p.2) (out_last (g.L.Library.files c.args.library.now) [] 0 (named_by_words c.args.name.now ∷ []) r.0 (g.L.Library.asked c.args.library.now)
    (g.L.Library.asked c.read_mention.new.library) (g.L.Library.failed c.args.library.now) (g.L.Library.failed c.read_mention.new.library)
    (first_comes c.new-reader.result c.new-reader.ensures.path c.new-reader.ensures.parts (g.L.Library.files c.args.library.now)
    (mention_data c.in_ok-mention.mention) c.args.name.now (g.L.Library.asked c.args.library.now) (g.L.Library.asked c.read_mention.new.library)
    (g.L.Library.failed c.args.library.now) (g.L.Library.failed c.read_mention.new.library) c.in_ok-mention.ensures r.1))
