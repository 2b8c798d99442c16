use Rattle.std.proofs.Common.{◌≡◌, ◌+◌, ◌<◌, ◌∷◌, [], List, Some, ap, arith, false, get_or, length, pos, slice_get, sym, ◌∙◌}
use Rattle.std.proofs.lemmas.List.{length-append}
use Rattle.std.proofs.lemmas.Option.{slice_get-get_or}
use Rattle.xs_rules.specs.declared.entries.Entry.{Entry}
use Rattle.xs_rules.proofs.TableLemmas.{tables-more}
use Rattle.xs_rules.proofs.tables.first_tables.Goals as goal

pub loop-entry-preserved : goal.loop-entry-preserved
loop-entry-preserved c =
    let es : List Entry = c.args.entries.now in
    let k = c.loop-entry.entry-index in
    let none : Entry = record { template = 0; alternative = 0; rank = record { precedence = 0; priority = pos 0 }; is_certain = false } in
    let e : Entry = get_or es k none in
    let inside : k < length es = omega (arith, c.loop-entry-test.true) in
    let read : slice_get es k ≡ Some e = slice_get-get_or es k none inside in
    let more : length c.push.new.self.items ≡ length c.loop-entry.tables.items + 1 =
    ap (λ l. length l) c.in_ok-push.ensures.items ∙ length-append c.loop-entry.tables.items (c.in_ok-table.table ∷ []) in
    record {
      tables =
          tables-more c.args.templates.now es c.args.tree.now c.loop-entry.tables.items c.push.new.self.items c.in_ok-table.table k e
          c.in_ok-push.ensures.items (sym c.loop-entry.invariant.long) read c.in_ok-table.ensures.table c.loop-entry.invariant.tables;
      long = omega (arith, more, c.loop-entry.invariant.long);
    }
