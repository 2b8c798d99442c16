use Rattle.std.proofs.Common.{rules, tests, refl, sym, ◌∙◌}
use Rattle.std.proofs.lemmas.Iterator.{YieldsList-from_chars}
use Rattle.std.proofs.lemmas.Iterator.Search.{all_from_yields_List}
use Rattle.std.proofs.lemmas.Str.{chars_past_char, IsUtf8-past_char}
use Rattle.xs_text.specs.Names.{continues_name}
use Rattle.xs_text.proofs.NameLemmas.{is_ncname-first}
use Rattle.xs_text.proofs.names.is_ncname.Goals as goal

pub returns-then-is_name_start : goal.returns-then-is_name_start
returns-then-is_name_start c =
    let text = c.args.s.now in
    let rest = c.next.new.self.rest.now in
    let cut = sym c.chars-chars.ensures.rest ∙ c.in-Some.ensures.steps.0 in
    let after = IsUtf8-past_char text rest c.in-Some.first c.utf8.s cut in
    let all = all_from_yields_List continues_name _ _ c.all.result c.all.ensures.ran (YieldsList-from_chars rest after refl)
    (λ x b q k. search (rules, tests)) in
    is_ncname-first text rest c.in-Some.first c.all.result (chars_past_char text rest c.in-Some.first c.utf8.s cut) (sym c.is_name_start.ensures
    ∙ c.if-is_name_start.true) all
