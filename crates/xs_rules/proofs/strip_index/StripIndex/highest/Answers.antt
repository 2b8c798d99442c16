use Rattle.std.proofs.Common.{◌≡◌, ◌∙◌, List, Option, ap}
use Rattle.std.specs.Option.{option_copied}
use Rattle.xs_sheet.specs.declared.declarations.StripRule.{StripRule}
use Rattle.xs_tree.specs.Record.{at}
use Rattle.xs_rules.specs.WhiteSpace.{rank_of}
use Rattle.xs_rules.specs.steps.Strips.{higher, of_name, of_uri}
use Rattle.xs_rules.proofs.StripIndexLemmas.{highest-found}
use Rattle.xs_rules.proofs.strip_index.StripIndex.highest.Goals as goal

pub returns : goal.returns
returns c =
    let i = c.args.self.now in
    let uri : option_copied c.rule_of_uri-uri.result ≡ of_uri i.uris c.uri.result.now = c.rule_of_uri-uri.ensures in
    c.higher-2.ensures
    ∙ ap (λ (o : Option StripRule). higher rank_of o (option_copied c.rule_of_name-name.result)) c.higher.ensures
    ∙ ap (λ (o : Option StripRule). higher rank_of (higher rank_of (option_copied i.any) o) (option_copied c.rule_of_name-name.result))
    (uri ∙ ap (of_uri i.uris) c.uri.ensures.uri)
    ∙ ap (higher rank_of (higher rank_of (option_copied i.any) _))
    (c.rule_of_name-name.ensures
    ∙ ap (λ (u : List _). of_name i.names u c.local.result.now) c.uri-2.ensures.uri
    ∙ ap (of_name i.names _) c.local.ensures.local)
    ∙ highest-found i (at c.args.tree.now c.args.element) c.requires.index
