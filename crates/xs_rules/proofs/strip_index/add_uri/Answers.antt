use Rattle.std.proofs.Common.{◌≡◌, ◌∙◌, ℕ, List, Option, Some, ap, sym}
use Rattle.std.specs.Prelude.{if◌then◌else◌}
use Rattle.std.specs.Borrow.{Bor}
use Rattle.std.specs.HashMap.{get_by}
use Rattle.std.specs.Option.{option_copied}
use Rattle.std.specs.Str.{bytes_eq}
use Rattle.xs_sheet.specs.declared.declarations.StripRule.{StripRule}
use Rattle.xs_rules.specs.Ranks.{or_above}
use Rattle.xs_rules.specs.WhiteSpace.{rank_of}
use Rattle.xs_rules.specs.steps.Strips.{of_uri}
use Rattle.xs_rules.proofs.StripIndexLemmas.{bytes-swap, put-found, same-bytes}
use Rattle.xs_rules.proofs.strip_index.add_uri.Goals as goal

pub returns : goal.returns
returns c = λ u.
    let uri : List ℕ = c.args.uri.now in
    let old : Option (Bor StripRule) = get_by (λ (k : Bor (List ℕ)). bytes_eq u k.now) c.args.uris.now in
    let new : Option (Bor StripRule) = get_by (λ (k : Bor (List ℕ)). bytes_eq u k.now) c.insert.new.self in
    let e : new ≡ (if bytes_eq uri u then Some c.above-best.result else old) =
    c.in_ok-insert.ensures.updates.0 (record { ref_ptr = (0, 0); now = u }) in
    ap option_copied e
    ∙ put-found (bytes_eq uri u) (bytes_eq u uri) c.args.rule.now c.above-best.result old (of_uri c.args.uris.now uri) (bytes-swap uri u)
    (c.above-best.ensures ∙ ap (or_above rank_of c.args.rule.now) c.rule_of_uri.ensures)
    (λ same. ap (of_uri c.args.uris.now) (sym (same-bytes u uri same)))
