use Rattle.std.proofs.Common.{rules, ◌≡◌, ◌==◌, ap, ◌∙◌, sym, Some, None}
use borrow.Author.Tests.{tests}
use Rattle.std.proofs.lemmas.Iterator.{YieldsList-from_chars}
use Rattle.std.proofs.lemmas.Iterator.Adapters.{option_map_id}
use Rattle.std.proofs.lemmas.Iterator.Search.{position_from_yields_List}
use Rattle.std.proofs.lemmas.Iterator.Consumers.{nth_from_yields_List}
use Rattle.std.specs.List.{position}
use Rattle.std.specs.Str.{chars}
use Rattle.xs_strings.specs.Translation.{replacement_at}
use Rattle.xs_strings.proofs.translation.replacement.Goals as goal

pub returns-in-Some : goal.returns-in-Some
returns-in-Some c =
    let place = position_from_yields_List (λ d. d == c.args.character) _ _ _ c.position.ensures.ran (YieldsList-from_chars c.args.from.now c.utf8.from cc)
    (λ x b q k. search (rules, tests)) in
    let partner = nth_from_yields_List _ _ _ c.nth.ensures.ran (YieldsList-from_chars c.args.to.now c.utf8.to cc) in
    let is : position (λ d. d == c.args.character) (chars c.args.from.now) ≡ Some c.in-Some.place = sym place ∙ c.in-Some.is in
    sym (option_map_id c.nth.result) ∙ partner ∙ sym (ap (replacement_at (chars c.args.to.now) c.args.character) is)

pub returns-in-None : goal.returns-in-None
returns-in-None c =
    let place = position_from_yields_List (λ d. d == c.args.character) _ _ _ c.position.ensures.ran (YieldsList-from_chars c.args.from.now c.utf8.from cc)
    (λ x b q k. search (rules, tests)) in
    let is : position (λ d. d == c.args.character) (chars c.args.from.now) ≡ None = sym place ∙ c.in-None.is in
    sym (ap (replacement_at (chars c.args.to.now) c.args.character) is)
