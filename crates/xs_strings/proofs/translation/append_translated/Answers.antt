use Rattle.std.specs.Str.{chars}
use Rattle.xs_strings.specs.Replacements.{replaced_by}
use Rattle.xs_strings.specs.Translation.{replacement}
use Rattle.xs_strings.proofs.ReplacementLemmas.{appended-same}
use Rattle.xs_strings.proofs.translation.append_translated.Goals as goal

pub returns-clause-ok : goal.returns-clause-ok
returns-clause-ok c =
    appended-same c.append_by_table.result c.append_by_table.new.out.items c.args.out.now.items (replaced_by c.in_ok-table.table)
    (replacement (chars c.args.from.now) (chars c.args.to.now)) (chars c.args.s.now) c.in_ok-table.ensures c.append_by_table.ensures.ok
